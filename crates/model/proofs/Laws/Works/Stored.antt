-- Stores that are accepted, one after the other: the disk and the memory that n of them leave, and the last one. A call with its stores.
use Prim.Native.Nat.{ℕ, zero, suc, ◌+◌, ◌≤◌, ◌<◌}
use native.Mathlib.Omega.{arith}
use mathlib.Core.Path.{◌≡◌, refl, sym, ap, ap₂, ◌∙◌, subst, subst₂}
use mathlib.Core.Bool.{Bool, true, false, cond, true≢false}
use mathlib.Core.Option.{Option, none}
use mathlib.Core.List.{List, ◌∷◌}
use lib.ListN.{length, take, drop, replicate}
use lib.Seq.{take-add, drop-drop}
use lib.Dec.{eqb}
use borrow.Author.Tests.{eqb-true, eqb-false, eq-eqb, ne_eqb}
use Rattle.model.specs.Types.{Error, Pending, Nothing, Commit, Recovery, Memory}
use Rattle.model.specs.Rules.Sizes.{disk_words}
use Rattle.model_types.specs.Memory.{with_pending}
use Rattle.model_types.specs.Pending.{is_nothing}
use Rattle.model.specs.Rules.First.{unless_refused}
use Rattle.model.specs.Rules.Stores.{Store, writes, closing_stores, checkpoint_stores}
use Rattle.model.specs.Rules.Commit.{committed_sam, entries_of}
use Rattle.model.specs.Rules.Pending.{stores_done, stores_due, one_more_done, more_done, finished, stores_left}
use Rattle.model.specs.Rules.Disk.{disk_bitmap, log_entries, next_disk, due_stores, disk_matches}
use Rattle.bitmap.specs.Bits.{no_bits_from}
use Rattle.model.specs.Rules.Calls.Open.{open_error}
use Rattle.model.specs.Rules.Calls.Store.{advanced, next_stored, store_memory, store_disk}
use Rattle.model.specs.Rules.Outcome.{Call, Outcome, outcome, store_call}
use Rattle.model.specs.Rules.Completion.{State, after_calls, after_stores, StoresAccepted, completed, carried_out}
use Rattle.model.proofs.Laws.Calls.Accepted.{StoreAccepted, store-accepted, accepted-store}
use Rattle.model.proofs.Laws.Memory.Valid.{ValidParts, valid-parts}
use Rattle.model.proofs.Laws.Disk.Writes.{writes-append}
use Rattle.model.proofs.Laws.Disk.Parts.{valid-word-one, valid-log-length, valid-log-entries, parts-open}
use Rattle.model.proofs.Laws.Disk.Matching.{commit-stores, recovery-stores, recovery-matches, RecoveryMatches, matching-parts}
use Rattle.model.proofs.Laws.Disk.RecoveryLog.{checkpoint_next, checkpointed-entries}
use Rattle.model.proofs.Laws.Works.Pending.{unfinished}
use Rattle.model.proofs.Laws.Works.Progress.{one-done, same-due, finished-pending, finished-later}

-- ---- one store

-- the disk of a recovery opens
pub recovery-opens : (memory : Memory) (disk : List ℕ) (done due : ℕ) → ValidParts memory → length disk ≡ disk_words
    → RecoveryMatches memory.blocks memory.sam.words disk done due
    → open_error disk ≡ none
recovery-opens memory disk done due parts size m =
    parts-open disk
    (record {
      size = size;
      some_blocks = omega (arith, parts.some_blocks, m.blocks_is);
      few_blocks = omega (arith, parts.few_blocks, m.blocks_is);
      no_bits = ap (λ (n : ℕ). no_bits_from n (disk_bitmap disk)) m.blocks_is ∙ m.no_bits;
      few_entries = valid-log-length disk m.log;
      word_one_is = valid-word-one disk m.log;
      entries = valid-log-entries disk m.log;
    })

-- the next store's disk
abbrev stored : Memory → List ℕ → Pending → List ℕ
stored memory disk p = writes (take 1 (drop (stores_done p) (due_stores memory disk p))) disk

-- until the last one the stores of the work are the same before and after each
module _ (memory : Memory) (disk : List ℕ) (parts : ValidParts memory) (size : length disk ≡ disk_words) where
  due-stays : (p : Pending) → is_nothing p ≡ false → disk_matches memory disk p ≡ true → stores_done p + 1 < stores_due p
      → due_stores (with_pending memory (one_more_done p)) (stored memory disk p) (one_more_done p) ≡ due_stores memory disk p
  unfolding is_nothing one_more_done stores_done stores_due entries_of committed_sam checkpoint_stores
  due-stays Nothing n m h = absurd (true≢false n)
  due-stays (Commit s done due) n m h =
      commit-stores (with_pending memory (Commit s (done + 1) due)) (stored memory disk (Commit s done due)) s (done + 1) due
      ∙ sym (commit-stores memory disk s done due)
  due-stays (Recovery done due) n m h =
      let parts-of = matching-parts memory.blocks memory.sam.words disk done due (sym (recovery-matches memory disk done due) ∙ m) in
      let stays : log_entries (checkpoint_next closing_stores disk done) ≡ log_entries disk =
      checkpointed-entries closing_stores disk (recovery-opens memory disk done due parts size parts-of) done (omega (arith, parts-of.due_is, h)) in
      recovery-stores (with_pending memory (Recovery (done + 1) due)) (stored memory disk (Recovery done due)) (done + 1) due
      ∙ ap (λ (stores : List Store). checkpoint_stores (log_entries (writes (take 1 (drop done stores)) disk))) (recovery-stores memory disk done due)
      ∙ ap checkpoint_stores stays
      ∙ sym (recovery-stores memory disk done due)

-- ---- n of them

-- what n accepted stores leave: the disk has the next n stores of the list, and n more are done, or the work is finished
pub record Stored (n : ℕ) (memory : Memory) (disk : List ℕ) (after : State) : Type 0 where
  pub within : n ≤ stores_left memory.pending
  pub disk_is : after.disk ≡ writes (take n (drop (stores_done memory.pending) (due_stores memory disk memory.pending))) disk
  pub more : n < stores_left memory.pending → after.memory ≡ with_pending memory (more_done n memory.pending)
  pub last : 1 ≤ n → n ≡ stores_left memory.pending → after.memory ≡ finished memory memory.pending

module _ (memory : Memory) (disk : List ℕ) (a : StoreAccepted memory disk) where
  abbrev p : Pending
  p = memory.pending

  abbrev due : List Store
  due = due_stores memory disk p

  abbrev next : List ℕ
  next = stored memory disk p

  begun : stores_done p < stores_due p
  begun = unfinished memory p (valid-parts memory a.is_valid).pending_fits a.pending

  -- what the call leaves
  pub stored-memory : store_memory memory disk ≡ advanced memory p
  unfolding store_memory unless_refused
  stored-memory = ap (λ (e : Option Error). unless_refused e (advanced memory p) memory) (accepted-store memory disk a)

  pub stored-disk : store_disk memory disk ≡ next_stored memory disk
  unfolding store_disk unless_refused
  stored-disk = ap (λ (e : Option Error). unless_refused e (next_stored memory disk) disk) (accepted-store memory disk a)

  next-is : store_disk memory disk ≡ next
  unfolding next_stored next_disk due_stores
  next-is = stored-disk

  -- the last one
  ends : stores_done p + 1 ≡ stores_due p → store_memory memory disk ≡ finished memory p
  unfolding advanced
  ends e = stored-memory ∙ ap (λ (t : Bool). cond t (finished memory p) (with_pending memory (one_more_done p))) (eq-eqb (stores_done p + 1) (stores_due p) e)

  -- another one
  goes_on : (stores_done p + 1 ≡ stores_due p → ⊥) → store_memory memory disk ≡ with_pending memory (one_more_done p)
  unfolding advanced
  goes_on n = stored-memory ∙ ap (λ (t : Bool). cond t (finished memory p) (with_pending memory (one_more_done p))) (ne_eqb (stores_done p + 1) (stores_due p) n)

  one-stored : stores_done p + 1 ≡ stores_due p → (after : State) → after.memory ≡ finished memory p → after.disk ≡ next → Stored 1 memory disk after
  unfolding stores_left
  one-stored e after m d =
      record {
        within = omega (arith, e);
        disk_is = d;
        more = λ h. absurd (omega (arith, h, e));
        last = λ _ _. m;
      }

  one_more : stores_done p + 1 < stores_due p → (n : ℕ) (after : State) → Stored n (with_pending memory (one_more_done p)) next after → Stored (suc n) memory disk after
  unfolding stores_left more_done
  one_more h n after rest =
      let done-is = one-done p a.pending in
      let due_is = same-due p in
      let count : 1 + n ≡ suc n = omega arith in
      record {
        within = omega (arith, rest.within, done-is, due_is, h);
        disk_is =
            rest.disk_is
            ∙ ap₂ (λ (k : ℕ) (stores : List Store). writes (take n (drop k stores)) next) done-is
            (due-stays memory disk (valid-parts memory a.is_valid) a.size p a.pending a.matches h)
            ∙ ap (λ (stores : List Store). writes (take n stores) next) (sym (drop-drop 1 (stores_done p) due))
            ∙ sym (writes-append (take 1 (drop (stores_done p) due)) (take n (drop 1 (drop (stores_done p) due))) disk)
            ∙ ap (λ (stores : List Store). writes stores disk) (sym (take-add 1 n (drop (stores_done p) due)))
            ∙ ap (λ (k : ℕ). writes (take k (drop (stores_done p) due)) disk) count;
        more = λ m. rest.more (omega (arith, m, done-is, due_is));
        last = λ _ e. rest.last (omega (arith, e, h)) (omega (arith, e, done-is, due_is)) ∙ finished-later memory p a.pending;
      }

-- none left, none accepted
none_more : (n : ℕ) (memory : Memory) (disk : List ℕ) → memory.pending ≡ Nothing → StoresAccepted n memory disk → n ≡ 0
unfolding is_nothing
none_more zero memory disk e accepted = refl
none_more (suc n) memory disk e (here, later) = absurd (true≢false (sym (ap is_nothing e) ∙ (store-accepted memory disk here).pending))

pub stored_is : (n : ℕ) (memory : Memory) (disk : List ℕ) → StoresAccepted n memory disk → Stored n memory disk (after_stores n memory disk)
unfolding writes more_done
stored_is zero memory disk accepted =
    record { within = omega arith; disk_is = refl; more = λ _. refl; last = λ h _. absurd (omega (arith, h)) }
stored_is (suc n) memory disk (here, later) =
    go (eqb (stores_done memory.pending + 1) (stores_due memory.pending)) refl (stored_is n (store_memory memory disk) (store_disk memory disk) later)
  where
    a : StoreAccepted memory disk
    a = store-accepted memory disk here

    after : State
    after = after_stores n (store_memory memory disk) (store_disk memory disk)

    last_one : stores_done memory.pending + 1 ≡ stores_due memory.pending → n ≡ 0
    last_one e =
        none_more n (store_memory memory disk) (store_disk memory disk)
        (ap (λ (m : Memory). m.pending) (ends memory disk a e) ∙ finished-pending memory memory.pending a.pending) later

    at-end : stores_done memory.pending + 1 ≡ stores_due memory.pending → n ≡ 0 → Stored (suc n) memory disk after
    at-end e z =
        subst (λ (k : ℕ). Stored (suc k) memory disk (after_stores k (store_memory memory disk) (store_disk memory disk))) (sym z)
        (one-stored memory disk a e (record { memory = store_memory memory disk; disk = store_disk memory disk }) (ends memory disk a e) (next-is memory disk a))

    go : (t : Bool) → eqb (stores_done memory.pending + 1) (stores_due memory.pending) ≡ t
        → Stored n (store_memory memory disk) (store_disk memory disk) after
        → Stored (suc n) memory disk after
    go true e ih = let q = eqb-true (stores_done memory.pending + 1) (stores_due memory.pending) e in at-end q (last_one q)
    go false e ih =
        let q = eqb-false (stores_done memory.pending + 1) (stores_due memory.pending) e in
        one_more memory disk a (omega (arith, q, begun memory disk a)) n after
        (subst₂ (λ (m : Memory) (d : List ℕ). Stored n m d after) (goes_on memory disk a q) (next-is memory disk a) ih)

-- ---- as calls made in turn

pub stores-in-turn : (n : ℕ) (memory : Memory) (disk : List ℕ) → after_calls (replicate n store_call) memory disk ≡ after_stores n memory disk
unfolding after_calls outcome
stores-in-turn zero memory disk = refl
stores-in-turn (suc n) memory disk = stores-in-turn n (store_memory memory disk) (store_disk memory disk)

-- a call with its stores: as many as are left if it is accepted, and else none
pub carried-out : (call : Call) (memory : Memory) (disk : List ℕ)
    → let after : Outcome = outcome call memory disk in
    carried_out call memory disk ≡ after_calls (call ∷ replicate (cond (eqb after.number 0) (stores_left after.memory.pending) 0) store_call) memory disk
unfolding carried_out completed after_calls
carried-out call memory disk = go (eqb (outcome call memory disk).number 0)
  where
    after : Outcome
    after = outcome call memory disk

    go : (t : Bool)
        → cond t (after_stores (stores_left after.memory.pending) after.memory after.disk) (record { memory = after.memory; disk = after.disk })
        ≡ after_calls (replicate (cond t (stores_left after.memory.pending) 0) store_call) after.memory after.disk
    go true = sym (stores-in-turn (stores_left after.memory.pending) after.memory after.disk)
    go false = refl
