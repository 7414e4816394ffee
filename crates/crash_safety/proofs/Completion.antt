-- In use every store that is due is accepted: work that has begun can be brought to its end, and then its last store has made of the
-- memory what it makes. Of memory and disk alone; in a world below.
use Prim.Native.Nat.{ℕ, zero, suc, ◌+◌, ◌≤◌}
use native.Mathlib.Omega.{arith}
use mathlib.Core.Path.{◌≡◌, refl, sym, ap, ◌∙◌, subst, subst₂}
use mathlib.Core.Bool.{Bool, true, false, cond}
use mathlib.Core.Option.{Option, none}
use mathlib.Core.List.{List, [], ◌∷◌, map}
use lib.ListN.{length, take, drop, replicate, length-set, length-map, length-drop}
use lib.Seq.{take_all}
use lib.Dec.{eqb}
use borrow.Author.Tests.{eqb-true}
use Rattle.bitmap.specs.Sizes.{slot_count}
use Rattle.bitmap.specs.Bits.{IsBitmap}
use Rattle.model_types.specs.declared.error.Error.{Error}
use Rattle.model_types.specs.declared.memory.Memory.{Memory}
use Rattle.model_types.specs.declared.memory.Pending.{Pending}
use Rattle.model_types.specs.declared.memory.Pending.TheVariants.{Nothing, Commit}
use Rattle.model_types.specs.Memory.{with_pending, idle_slot}
use Rattle.model_types.specs.Pending.{is_nothing}
use Rattle.model_types.specs.Answers.{answer, answer_number}
use Rattle.model.specs.Rules.First.{unless_refused}
use Rattle.model.specs.Rules.Stores.{Store, writes}
use Rattle.model.specs.Rules.Commit.{committed_sam, commit_due, refreshed, committed}
use Rattle.model.specs.Rules.Pending.{stores_done, stores_due, one_more_done, finished, begun, stores_left}
use Rattle.model.specs.Rules.Valid.{pending_valid}
use Rattle.model.specs.Rules.Disk.{due_stores}
use Rattle.model.specs.Rules.Calls.Commit.{commit_error, committing, commit_answer, commit_memory}
use Rattle.model.specs.Rules.Calls.Store.{advanced, store_memory, store_disk}
use Rattle.model.specs.Rules.Completion.{State, after_calls, StoresAccepted, after_stores, completed, carried_out}
use Rattle.model.specs.Rules.Outcome.{Call, outcome, commit_call, store_call}
use Rattle.model.proofs.Laws.Calls.Accepted.{is-nothing, StoreAccepted, accepted-store, commit-accepted}
use Rattle.model.proofs.Laws.Memory.Valid.{valid-parts}
use Rattle.model.proofs.Laws.Works.Pending.{unfinished}
use Rattle.model.proofs.Laws.Commit.Committed.{committed-bitmap}
use Rattle.model.proofs.Laws.Works.DueStores.{due-length}
use Rattle.model.proofs.Laws.Works.Progress.{some_left, one_fewer, finished-pending, finished-none, committing-begun, begun-finished, begun-left, by-finish, by-store, by-begin}
use Rattle.model.proofs.Laws.Works.Stored.{stored-memory, stored-disk, stored_is, stores-in-turn}
use Rattle.crash_safety.specs.World.{World, step, run}
use Rattle.crash_safety.specs.InOrder.{Consistent, InUse, Completes}
use Rattle.crash_safety.proofs.Invariant.{Invariant}
use Rattle.crash_safety.proofs.InOrder.Store.{store-consistent}
use Rattle.crash_safety.proofs.InOrder.Commit.{commit-consistent}

-- ---- the stores not yet done

none_left : (memory : Memory) (p : Pending) → pending_valid memory p ≡ true → stores_left p ≡ 0 → p ≡ Nothing
unfolding stores_left
none_left memory p v e = go (is_nothing p) refl
  where
    go : (t : Bool) → is_nothing p ≡ t → p ≡ Nothing
    go true n = is-nothing p n
    go false n = absurd (omega (arith, e, unfinished memory p v n))

-- after a store one fewer is left
store-left : (memory : Memory) (p : Pending) (n : ℕ) → stores_left p ≡ suc n → stores_left (advanced memory p).pending ≡ n
unfolding advanced stores_left stores_done stores_due
store-left memory p n e = go (eqb (stores_done p + 1) (stores_due p)) refl
  where
    go : (t : Bool) → eqb (stores_done p + 1) (stores_due p) ≡ t
        → stores_left (cond t (finished memory p) (with_pending memory (one_more_done p))).pending ≡ n
    go true q = ap stores_left (finished-pending memory p (some_left p n e)) ∙ omega (arith, eqb-true (stores_done p + 1) (stores_due p) q, e)
    go false q = one_fewer p n e

-- the list has no more stores than are left
few-left : (memory : Memory) (disk : List ℕ) → Consistent memory disk
    → length (drop (stores_done memory.pending) (due_stores memory disk memory.pending)) ≤ stores_left memory.pending
unfolding stores_left
few-left memory disk c =
    omega (
      arith,
      length-drop (stores_done memory.pending) (due_stores memory disk memory.pending),
      due-length memory disk c.is_valid c.size c.matches,
    )

-- ---- store calls, one after the other

-- eight slots, and a SAM of 128 words of 32 bits, as the types give a memory
pub record Sized (memory : Memory) : Type 0 where
  pub slots : length memory.slots ≡ slot_count
  pub sam : IsBitmap memory.sam.words

committed-sized : (memory : Memory) (s : ℕ) → Sized memory → Sized (committed memory s)
unfolding committed
committed-sized memory s sized =
    let refresh = refreshed memory (committed_sam memory s) in
    record {
      slots = length-set (map refresh memory.slots) s idle_slot ∙ length-map memory.slots refresh ∙ sized.slots;
      sam = committed-bitmap memory s;
    }

pending-sized : (memory : Memory) (pending : Pending) → Sized memory → Sized (with_pending memory pending)
pending-sized memory pending sized = record { slots = sized.slots; sam = sized.sam }

module _ (memory : Memory) (sized : Sized memory) where
  finished-sized : (p : Pending) → Sized (finished memory p)
  finished-sized p = by-finish Sized memory sized (pending-sized memory Nothing sized) p (λ t _ _ _. committed-sized memory t sized)

  advanced-sized : (p : Pending) → Sized (advanced memory p)
  advanced-sized p = by-store Sized memory p (finished-sized p) (pending-sized memory (one_more_done p) sized)

  begun_sized : (p : Pending) → Sized (begun memory p)
  begun_sized p = by-begin Sized memory p (finished-sized p) (pending-sized memory p sized)

-- in order, a store is refused only where nothing is pending
store-passes : (memory : Memory) (disk : List ℕ) → Consistent memory disk → is_nothing memory.pending ≡ false → StoreAccepted memory disk
store-passes memory disk c pending = record { is_valid = c.is_valid; size = c.size; matches = c.matches; pending = pending }

pub record Ended (n : ℕ) (memory : Memory) (disk : List ℕ) : Type 0 where
  pub accepted : StoresAccepted n memory disk
  pub consistent : Consistent (after_stores n memory disk).memory (after_stores n memory disk).disk
  pub ended : (after_stores n memory disk).memory.pending ≡ Nothing

-- as many stores as are left are accepted, and then nothing is pending
pub ends : (n : ℕ) (memory : Memory) (disk : List ℕ) → Sized memory → Consistent memory disk → stores_left memory.pending ≡ n → Ended n memory disk
ends zero memory disk sized c e =
    record { accepted = tt; consistent = c; ended = none_left memory memory.pending (valid-parts memory c.is_valid).pending_fits e }
ends (suc n) memory disk sized c e =
    let a = store-passes memory disk c (some_left memory.pending n e) in
    let memory-is = stored-memory memory disk a in
    let next : Consistent (store_memory memory disk) (store_disk memory disk) =
    subst₂ Consistent (sym memory-is) (sym (stored-disk memory disk a)) (store-consistent memory disk sized.slots sized.sam c a) in
    let rest =
    ends n (store_memory memory disk) (store_disk memory disk) (subst Sized (sym memory-is) (advanced-sized memory sized memory.pending)) next
    (ap (λ (m : Memory). stores_left m.pending) memory-is ∙ store-left memory memory.pending n e) in
    record { accepted = (accepted-store memory disk a, rest.accepted); consistent = rest.consistent; ended = rest.ended }

-- ---- work run to its end

-- it completes, the memory is what its last store makes of it, and all stores of the list that weren't done are on the disk
pub record Finishes (memory : Memory) (disk : List ℕ) : Type 0 where
  pub completes : Completes memory disk
  pub leaves : (completed memory disk).memory ≡ finished memory memory.pending
  pub written : (completed memory disk).disk ≡ writes (drop (stores_done memory.pending) (due_stores memory disk memory.pending)) disk

pub finishes : (memory : Memory) (disk : List ℕ) → Sized memory → Consistent memory disk → Finishes memory disk
unfolding completed
finishes memory disk sized c =
    let n : ℕ = stores_left memory.pending in
    let d = ends n memory disk sized c refl in
    let is = stored_is n memory disk d.accepted in
    record {
      completes = record { accepted = d.accepted; ended = d.ended; consistent = d.consistent };
      leaves = at-end n refl is.last;
      written = is.disk_is ∙ ap (λ (stores : List Store). writes stores disk) all;
    }
  where
    p : Pending
    p = memory.pending

    at-end : (n : ℕ) → stores_left p ≡ n → (1 ≤ n → n ≡ stores_left p → (after_stores n memory disk).memory ≡ finished memory p)
        → (after_stores n memory disk).memory ≡ finished memory p
    at-end zero e last = sym (finished-none memory p (none_left memory p (valid-parts memory c.is_valid).pending_fits e))
    at-end (suc n) e last = last (omega arith) (sym e)

    all : take (stores_left p) (drop (stores_done p) (due_stores memory disk p)) ≡ drop (stores_done p) (due_stores memory disk p)
    all = take_all (stores_left p) (drop (stores_done p) (due_stores memory disk p)) (few-left memory disk c)

-- ---- work that begins

-- every store of it is accepted, and then the memory is what its last one makes, at once where it has none
pub record BegunFinishes (memory : Memory) (disk : List ℕ) (new : Pending) : Type 0 where
  pub accepted : StoresAccepted (stores_due new) (begun memory new) disk
  pub leaves : (completed (begun memory new) disk).memory ≡ finished memory new
  pub consistent : Consistent (finished memory new) (completed (begun memory new) disk).disk

pub begun-finishes : (memory : Memory) (disk : List ℕ) (new : Pending) → is_nothing new ≡ false → stores_done new ≡ 0
    → Sized memory
    → Consistent (begun memory new) disk
    → BegunFinishes memory disk new
begun-finishes memory disk new some none_done sized c =
    let f = finishes (begun memory new) disk (begun_sized memory sized new) c in
    let leaves = f.leaves ∙ begun-finished memory new some in
    record {
      accepted = subst (λ (n : ℕ). StoresAccepted n (begun memory new) disk) (begun-left memory new some none_done) f.completes.accepted;
      leaves = leaves;
      consistent = subst (λ (m : Memory). Consistent m (completed (begun memory new) disk).disk) leaves f.completes.consistent;
    }

-- ---- a commit

module _ (memory : Memory) (disk : List ℕ) (s : ℕ) where
  -- where it is accepted every store of it is, and then the memory is the committed one
  pub record CommitFinishes : Type 0 where
    pub accepted : StoresAccepted (commit_due memory s) (committing memory s) disk
    pub leaves : (carried_out (commit_call s) memory disk).memory ≡ committed memory s
    pub consistent : Consistent (committed memory s) (carried_out (commit_call s) memory disk).disk

  abbrev commit_of : Pending
  commit_of = Commit s 0 (commit_due memory s)

  commit-carried : commit_error memory s ≡ none → carried_out (commit_call s) memory disk ≡ completed (begun memory commit_of) disk
  unfolding carried_out outcome commit_memory commit_answer unless_refused answer
  commit-carried e =
      ap (λ (x : Option Error).
      cond (eqb (answer_number (answer x (commit_due memory s))) 0)
      (completed (unless_refused x (committing memory s) memory) disk)
      (record { memory = unless_refused x (committing memory s) memory; disk = disk })) e
      ∙ ap (λ (m : Memory). completed m disk) (committing-begun memory s)

  pub commit-finishes : Sized memory → Consistent memory disk → commit_error memory s ≡ none → CommitFinishes
  unfolding stores_due stores_done is_nothing finished
  commit-finishes sized c e =
      let same = committing-begun memory s in
      let begins = commit-consistent memory disk s sized.slots sized.sam c (commit-accepted memory s e) in
      let f = begun-finishes memory disk commit_of refl refl sized (subst (λ (m : Memory). Consistent m disk) same begins) in
      let out = commit-carried e in
      record {
        accepted = subst (λ (m : Memory). StoresAccepted (commit_due memory s) m disk) (sym same) f.accepted;
        leaves = ap (λ (x : State). x.memory) out ∙ f.leaves;
        consistent = subst (Consistent (committed memory s)) (sym (ap (λ (x : State). x.disk) out)) f.consistent;
      }

-- ---- in a world

abbrev pub stored : ℕ → World → World
stored n w = run (replicate n store_call) w

-- memory and disk after calls made in turn
pub after-calls : (calls : List Call) (w : World) → after_calls calls w.memory w.disk ≡ record { memory = (run calls w).memory; disk = (run calls w).disk }
unfolding after_calls run step
after-calls [] w = refl
after-calls (call ∷ calls) w = after-calls calls (step call w)

pub after-stored : (n : ℕ) (w : World) → after_stores n w.memory w.disk ≡ record { memory = (stored n w).memory; disk = (stored n w).disk }
after-stored n w = sym (stores-in-turn n w.memory w.disk) ∙ after-calls (replicate n store_call) w

pub sized-in-use : (w : World) → Invariant w → InUse w → Sized w.memory
sized-in-use w i c = let related = i.related c.is_valid in record { slots = related.slots; sam = related.sam }

pub completes : (w : World) → Invariant w → InUse w → Completes w.memory w.disk
completes w i c = (finishes w.memory w.disk (sized-in-use w i c) c).completes
