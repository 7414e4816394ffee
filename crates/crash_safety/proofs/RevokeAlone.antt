-- A precommitted slot waits for its revoke or its commit: of all other works only an open and a crash reach its state and its sets.
use Prim.Native.Nat.{ℕ, ◌+◌, ◌*◌, ◌≤◌, ◌<◌}
use native.Mathlib.Decide.{dec_le}
use native.Mathlib.Nat.{lt_of_not-le}
use native.Mathlib.Omega.{arith}
use mathlib.Core.Path.{◌≡◌, refl, sym, ap, ◌∙◌}
use mathlib.Core.Bool.{Bool, true, false, ◌&&◌, true≢false}
use mathlib.Core.List.{List}
use lib.ListN.{length}
use lib.Seq.{get_or-set_other}
use lib.Dec.{eqb}
use borrow.Author.Tests.{eqb-false}
use Rattle.model_types.specs.declared.memory.Memory.{Memory}
use Rattle.model_types.specs.declared.memory.Slot.{Slot}
use Rattle.model_types.specs.declared.memory.Pending.{Pending}
use Rattle.model_types.specs.declared.memory.Pending.TheVariants.{Nothing, Commit, Recovery}
use Rattle.model_types.specs.Memory.{slot_at, is_active, with_pending}
use Rattle.model.specs.Rules.Commit.{committed_sam, changed_of, refreshed, committed}
use Rattle.model.specs.Rules.Pending.{stores_done, stores_due, one_more_done, finished, begun, is_commit_of}
use Rattle.model.specs.Rules.Calls.Store.{advanced}
use Rattle.model.specs.Rules.Calls.Format.{format_disk}
use Rattle.model.specs.Rules.Outcome.{Call}
use Rattle.model.specs.Rules.Work.{Change, bearing, changed, Work, open_work, crash_work, store_work, begin_work, change_work, worked, worked_disk}
use Rattle.model.proofs.Laws.Works.Work.{ChangeMade, by-begun, Made, Fails}
use Rattle.model.proofs.Laws.Calls.Accepted.{Ready}
use Rattle.model.proofs.Laws.Memory.Valid.{valid-parts}
use Rattle.model.proofs.Laws.Works.Change.{change-frame}
use Rattle.model.proofs.Laws.Works.ChangeMade.{change-leaves}
use Rattle.model.proofs.Laws.Works.Progress.{either, by-begin}
use Rattle.model.proofs.Laws.Commit.Committed.{refreshed-at}
use Rattle.crash_safety.specs.Ledger.{Sets, no_sets, Ledger, sets_of, sets_words, with_sets, counts, commits, counts_store, stores, entered}
use Rattle.crash_safety.specs.World.{World, world_of, begin, run}
use Rattle.crash_safety.specs.RevokeAlone.{Waiting, ends_waiting, RevokeAlone}
use Rattle.crash_safety.proofs.Invariant.{PendingTied, Invariant, counting_of}
use Rattle.crash_safety.proofs.Works.{told, change-told, after}
use Rattle.crash_safety.proofs.Keeps.{run-keeps, by-kept, begins-formatted}

-- the pending work isn't the commit of slot s
abbrev Elsewhere : ℕ → Pending → Type 0
Elsewhere s pending = (done due : ℕ) → pending ≡ Commit s done due → ⊥

-- ---- the sets of slot s, where another slot t is at work

module _ (ledger : Ledger) (s : ℕ) where
  abbrev SameSets : Ledger → Type 0
  SameSets after = sets_of after s ≡ sets_of ledger s

  -- t gets other sets
  set_same : (t : ℕ) (own : Sets) → (s ≡ t → ⊥) → SameSets (with_sets ledger t own)
  set_same t own other = get_or-set_other ledger.slots t s own no_sets other

  -- its commit comes under count
  counts_same : (t : ℕ) → SameSets (counts ledger t)
  unfolding counts
  counts_same t = either SameSets (eqb (sets_words (sets_of ledger t)) 0) refl refl

  -- a store of it, the commit point or not
  counted_same : (t number : ℕ) → (s ≡ t → ⊥) → SameSets (stores ledger (counting_of t number))
  unfolding stores counts_store commits
  counted_same t number other = either SameSets (eqb (number + 1) (2 * sets_words (sets_of ledger t) + 1)) (set_same t no_sets other) refl

  -- a store of whatever is pending: a commit is under count until its commit point, and then none is
  stores_same : (memory : Memory) (pending : Pending) → PendingTied memory ledger pending → Elsewhere s pending → SameSets (stores ledger ledger.counting)
  unfolding stores counts_store commits
  stores_same memory Nothing tied elsewhere = rw tied.counted
  stores_same memory (Recovery done due) tied elsewhere = rw tied.counted
  stores_same memory (Commit t done due) (before, past) elsewhere = go (dec_le done (2 * changed_of memory t))
    where
      go : Dec (done ≤ 2 * changed_of memory t) → SameSets (stores ledger ledger.counting)
      go (yes h) = rw (before h).counted (counted_same t done (λ e. elsewhere done due (cc)))
      go (no n) = rw (past (lt_of_not-le n)).uncounted

-- ---- one work

-- the commit of slot t leaves the state of another
committed-same : (memory : Memory) (s t : ℕ) → (s ≡ t → ⊥) → (slot_at (committed memory t) s).state ≡ (slot_at memory s).state
unfolding committed refreshed
committed-same memory s t other =
    ap (λ (slot : Slot). slot.state) (refreshed-at memory (committed_sam memory t) t s other)
    ∙ either (λ (slot : Slot). slot.state ≡ (slot_at memory s).state) (is_active (slot_at memory s).state) refl refl

module _ (s : ℕ) (sets : Sets) (w : World) (waits : Waiting s sets w) where
  -- what is left of the memory, where the sets of slot s are the same
  module _ (disk : List ℕ) (ledger : Ledger) (same : SameSets w.ledger s ledger) where
    abbrev Waits : Memory → Type 0
    Waits memory = Waiting s sets (world_of memory disk ledger)

    -- another slot changes
    changed-waits : (t : ℕ) → (s ≡ t → ⊥) → (change : Change) → Waits (changed change w.memory t)
    changed-waits t other change =
        let frame = change-frame w.memory t change in
        record {
          precommitted = ap (λ (x : Slot). x.state) (frame.slots.others s other) ∙ waits.precommitted;
          not_committing = λ done due e. waits.not_committing done due (sym frame.pending ∙ e);
          same_sets = same ∙ waits.same_sets;
        }

    -- other work is pending
    pending-waits : (pending : Pending) → Elsewhere s pending → Waits (with_pending w.memory pending)
    pending-waits pending elsewhere = record { precommitted = waits.precommitted; not_committing = elsewhere; same_sets = same ∙ waits.same_sets }

    -- another slot's commit ends
    committed-waits : (t : ℕ) → (s ≡ t → ⊥) → Waits (committed w.memory t)
    unfolding committed
    committed-waits t other =
        record {
          precommitted = committed-same w.memory s t other ∙ waits.precommitted;
          not_committing = λ _ _ e. true≢false (cc);
          same_sets = same ∙ waits.same_sets;
        }

    -- it begins, and ends at once where it has no stores
    begun-waits : (t done due : ℕ) → (s ≡ t → ⊥) → Waits (begun w.memory (Commit t done due))
    unfolding finished
    begun-waits t done due other =
        by-begin Waits w.memory (Commit t done due) (committed-waits t other) (pending-waits (Commit t done due) (λ _ _ e. other (cc)))

    -- the pending work's next store
    advanced-waits : (pending : Pending) → Elsewhere s pending → Waits (advanced w.memory pending)
    unfolding advanced stores_done stores_due finished one_more_done
    advanced-waits Nothing elsewhere = pending-waits Nothing elsewhere
    advanced-waits (Recovery done due) elsewhere =
        either Waits (eqb (done + 1) due) (pending-waits Nothing (λ _ _ e. true≢false (cc))) (pending-waits (Recovery (done + 1) due) (λ _ _ e. true≢false (cc)))
    advanced-waits (Commit t done due) elsewhere =
        either Waits (eqb (done + 1) due) (committed-waits t (λ e. elsewhere done due (cc)))
        (pending-waits (Commit t (done + 1) due) (λ _ _ e. elsewhere done due (cc)))

  -- of the slot itself there is no other change than a revoke, so a work that spares it is of another one
  another : Invariant w → (t : ℕ) (change : Change) (own : Bool) → eqb t s ≡ own → (own && (bearing change).revokes) ≡ false
      → Ready w.memory t → ChangeMade change w.memory t → s ≡ t → ⊥
  another i t change true q f ready a e =
      let there : t < length w.memory.slots = omega (arith, (i.related ready.is_valid).slots, ready.below) in
      let leaves = change-leaves w.memory (valid-parts w.memory ready.is_valid) t ready there change a in
      true≢false (sym (leaves.spares (ap (λ (x : ℕ). (slot_at w.memory x).state) (sym e) ∙ waits.precommitted)) ∙ f)
  another i t change false q f ready a e = eqb-false t s q (sym e)

  work-waits : Invariant w → (call : Call) (new : Work) → Made call new w.memory w.disk → Fails (ends_waiting s) new w.memory
      → Waiting s sets (after new w)
  unfolding ends_waiting worked worked_disk told entered
  work-waits i call open_work m f = absurd (true≢false f)
  work-waits i call crash_work m f = absurd (true≢false f)
  work-waits i call store_work a f =
      let same = stores_same w.ledger s w.memory w.memory.pending (i.related a.is_valid).pending waits.not_committing in
      advanced-waits _ _ same w.memory.pending waits.not_committing
  work-waits i call (begin_work new) m f =
      by-begun (λ p. is_commit_of s p ≡ false → Waiting s sets (after (begin_work p) w)) w.memory
      (λ t done due _ _ g. begun-waits _ _ (counts_same w.ledger s t) t done due (λ e. eqb-false t s g (sym e))) new m f
  work-waits i call (change_work t change) m f =
      let other = another i t change (eqb t s) refl f m.0 m.1 in
      changed-waits _ _ ((change-told w.ledger t change).others s other) t other change

pub revoke-alone : RevokeAlone
revoke-alone blocks some_blocks few disk size before s sets waits calls without =
    let first : World = begin (format_disk disk blocks) in
    by-kept (Waiting s sets) (ends_waiting s) (λ v i call new m f u. work-waits s sets v u i call new m f) calls (run before first) without
    (run-keeps before first (begins-formatted blocks some_blocks few disk size)) waits
