-- Valid pending work, part by part: a commit and its 3·d + 2 stores, a recovery; of any kind; and with one more store done.
use Prim.Native.Nat.{ℕ, ◌+◌, ◌≤◌, ◌<◌}
use native.Mathlib.Omega.{arith}
use mathlib.Core.Path.{◌≡◌, refl, sym, ap, ◌∙◌}
use mathlib.Core.Bool.{Bool, true, false, cond, ◌&&◌, true≢false}
use lib.ListN.{length}
use lib.Dec.{leb, ltb, eqb}
use borrow.Author.Tests.{eqb-false, leb-true, ltb-true, eqb-true, le-leb, lt-ltb, eq-eqb, ne_eqb}
use Rattle.bitmap.specs.Sizes.{slot_count}
use Rattle.model.specs.Types.{SlotState, Idle, Open, Precommitted, Pending, Nothing, Commit, Recovery, Memory}
use Rattle.model_types.specs.Memory.{slot_at, is_active, is_precommitted, with_pending, volume_words}
use Rattle.model_types.specs.Pending.{is_nothing, stores_for}
use Rattle.model.specs.Rules.Stores.{commit_stores}
use Rattle.model.specs.Rules.Commit.{committed_sam, entries_of, changed_of, commit_due}
use Rattle.model.specs.Rules.Pending.{stores_done, stores_due, one_more_done}
use Rattle.model.specs.Rules.Valid.{is_quiet, pending_valid}
use Rattle.model.proofs.Laws.Memory.Fields.{active-there}
use Rattle.model.proofs.Laws.Disk.Writes.{and_both, and_first, and_second}
use Rattle.model.proofs.Laws.Disk.StoreLists.{length-commit_stores}
use Rattle.model.proofs.Laws.Memory.Valid.{ValidParts}
use Rattle.model.proofs.Laws.Touched.Touches.{pending_fits}

-- "Otherwise that call answers 3·d + 2"
pub commit-due : (memory : Memory) (s : ℕ) → 1 ≤ changed_of memory s → commit_due memory s ≡ stores_for (changed_of memory s)
unfolding commit_due changed_of
commit-due memory s h =
    ap (λ (t : Bool). cond t 0 (length (commit_stores (entries_of memory s)))) (ne_eqb (changed_of memory s) 0 (λ e. omega (arith, e, h)))
    ∙ length-commit_stores (entries_of memory s)

-- ---- a commit

pub record CommitParts (memory : Memory) (s done due : ℕ) : Type 0 where
  pub precommitted : is_precommitted (slot_at memory s).state ≡ true
  pub some_changed : 1 ≤ changed_of memory s
  pub due_is : due ≡ stores_for (changed_of memory s)
  pub not_ended : done < due

module _ (memory : Memory) (s done due : ℕ) where
  pub commit-parts : pending_valid memory (Commit s done due) ≡ true → CommitParts memory s done due
  unfolding pending_valid
  commit-parts e =
      let e2 = and_first _ (ltb done due) e in
      let e1 = and_first _ (eqb due (commit_due memory s)) e2 in
      let precommitted : Bool = is_precommitted (slot_at memory s).state in
      let some_changed : 1 ≤ changed_of memory s = leb-true 1 (changed_of memory s) (and_second precommitted _ e1) in
      record {
        precommitted = and_first precommitted (leb 1 (changed_of memory s)) e1;
        some_changed = some_changed;
        due_is = eqb-true due (commit_due memory s) (and_second (precommitted && leb 1 (changed_of memory s)) _ e2) ∙ commit-due memory s some_changed;
        not_ended = ltb-true done due (and_second (precommitted && leb 1 (changed_of memory s) && eqb due (commit_due memory s)) _ e);
      }

  pub parts-commit : CommitParts memory s done due → pending_valid memory (Commit s done due) ≡ true
  unfolding pending_valid
  parts-commit c =
      and_both
      (and_both
      (and_both c.precommitted (le-leb 1 (changed_of memory s) c.some_changed))
      (eq-eqb due (commit_due memory s) (c.due_is ∙ sym (commit-due memory s c.some_changed))))
      (lt-ltb done due c.not_ended)

-- a precommitted slot is active
pub precommitted-active : (state : SlotState) → is_precommitted state ≡ true → is_active state ≡ true
precommitted-active Idle e = e
precommitted-active Open e = refl
precommitted-active Precommitted e = refl

-- and one of the eight
pub precommitted-below : (memory : Memory) (s : ℕ) → length memory.slots ≡ slot_count → is_precommitted (slot_at memory s).state ≡ true → s < slot_count
precommitted-below memory s eight e = omega (arith, eight, active-there memory s (precommitted-active (slot_at memory s).state e))

-- a commit just begun
pub begun-valid : (memory : Memory) (s : ℕ) → eqb (changed_of memory s) 0 ≡ false → ValidParts memory
    → is_precommitted (slot_at memory s).state ≡ true
    → ValidParts (with_pending memory (Commit s 0 (commit_due memory s)))
unfolding pending_valid changed_of entries_of committed_sam commit_due
begun-valid memory s changes-some parts precommitted =
    let some_changed : 1 ≤ changed_of memory s = omega (arith, eqb-false (changed_of memory s) 0 changes-some) in
    let due_is : commit_due memory s ≡ stores_for (changed_of memory s) = commit-due memory s some_changed in
    pending_fits memory (Commit s 0 (commit_due memory s)) parts
    (parts-commit memory s 0 (commit_due memory s)
    (record { precommitted = precommitted; some_changed = some_changed; due_is = due_is; not_ended = omega (arith, due_is) }))

-- ---- a recovery

pub record RecoveryParts (memory : Memory) (done due : ℕ) : Type 0 where
  pub quiet : is_quiet memory ≡ true
  pub some_logged : 2 ≤ due
  pub few_logged : due ≤ volume_words memory + 1
  pub not_ended : done < due

module _ (memory : Memory) (done due : ℕ) where
  pub recovery-parts : pending_valid memory (Recovery done due) ≡ true → RecoveryParts memory done due
  unfolding pending_valid
  recovery-parts e =
      let e2 = and_first _ (ltb done due) e in
      let e1 = and_first _ (leb due (volume_words memory + 1)) e2 in
      record {
        quiet = and_first (is_quiet memory) (leb 2 due) e1;
        some_logged = leb-true 2 due (and_second (is_quiet memory) _ e1);
        few_logged = leb-true due (volume_words memory + 1) (and_second (is_quiet memory && leb 2 due) _ e2);
        not_ended = ltb-true done due (and_second (is_quiet memory && leb 2 due && leb due (volume_words memory + 1)) _ e);
      }

  pub parts-recovery : RecoveryParts memory done due → pending_valid memory (Recovery done due) ≡ true
  unfolding pending_valid
  parts-recovery r =
      and_both
      (and_both (and_both r.quiet (le-leb 2 due r.some_logged)) (le-leb due (volume_words memory + 1) r.few_logged))
      (lt-ltb done due r.not_ended)

-- ---- work of any kind

-- "stores done are fewer than stores due"
pub unfinished : (memory : Memory) (pending : Pending) → pending_valid memory pending ≡ true → is_nothing pending ≡ false
    → stores_done pending < stores_due pending
unfolding is_nothing stores_done stores_due
unfinished memory Nothing v n = absurd (true≢false n)
unfinished memory (Commit s done due) v n = (commit-parts memory s done due v).not_ended
unfinished memory (Recovery done due) v n = (recovery-parts memory done due v).not_ended

-- ---- one more store done

pub more-valid : (memory : Memory) (pending : Pending) → ValidParts memory → pending_valid memory pending ≡ true
    → stores_done pending + 1 < stores_due pending
    → ValidParts (with_pending memory (one_more_done pending))
unfolding stores_done stores_due one_more_done pending_valid changed_of entries_of committed_sam commit_due is_quiet
more-valid memory Nothing parts e h = pending_fits memory Nothing parts refl
more-valid memory (Commit s done due) parts e h =
    let c = commit-parts memory s done due e in
    pending_fits memory (Commit s (done + 1) due) parts
    (parts-commit memory s (done + 1) due
    (record { precommitted = c.precommitted; some_changed = c.some_changed; due_is = c.due_is; not_ended = h }))
more-valid memory (Recovery done due) parts e h =
    let r = recovery-parts memory done due e in
    pending_fits memory (Recovery (done + 1) due) parts
    (parts-recovery memory (done + 1) due (record { quiet = r.quiet; some_logged = r.some_logged; few_logged = r.few_logged; not_ended = h }))
