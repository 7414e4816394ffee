-- Pending work, in a memory whose bitmaps are valid.
use Prim.Native.Nat.{ℕ, zero, suc, ◌≤◌}
use native.Mathlib.Omega.{arith}
use mathlib.Core.Path.{◌≡◌, refl, sym, ap, ◌∙◌}
use mathlib.Core.Bool.{Bool, true, false, ◌&&◌}
use mathlib.Core.List.{List}
use lib.ListN.{length, get_or-eq_default}
use lib.Dec.{leb, ltb, eqb}
use Rattle.bitmap.specs.Sizes.{bitmap_words}
use Rattle.bitmap.specs.Bits.{IsBitmap}
use Rattle.model_types.specs.declared.memory.Slot.{Slot}
use Rattle.model_types.specs.declared.memory.Pending.{Pending}
use Rattle.model_types.specs.declared.memory.Memory.{Memory}
use Rattle.model_types.specs.Memory.{idle_slot, slot_at, is_precommitted}
use Rattle.model_types.specs.Pending.{stores_for}
use Rattle.model.specs.Rules.Stores.{changes}
use Rattle.model.specs.Rules.Commit.{committed_sam, entries_of, changed_of, commit_due}
use Rattle.model.specs.Rules.Valid.{pending_valid, valid}
use Rattle.model.proofs.Laws.Memory.Valid.{valid-parts}
use Rattle.model.proofs.Laws.Commit.Changes.{changes_from-length}
use Rattle.model.proofs.Laws.Commit.CommittedTam.{entries-tam}
use Rattle.model.proofs.Laws.Works.Pending.{precommitted-active, commit-due as due_is}
use Rattle.validity.specs.Checked.{bare}
use Rattle.validity.specs.Pending.{changed_words, commit_valid}

-- no more words change than there are
pub changed_most : (old new : List ℕ) → IsBitmap old → length (changes old new) ≤ bitmap_words
changed_most old new is = omega (arith, changes_from-length 0 old new, is.size)

-- the stores due of a commit that changes a word are 3·d + 2; for one that changes none, both tests are false
same-due : (precommitted : Bool) (d due commit : ℕ) → (1 ≤ d → commit ≡ stores_for d)
    → (precommitted && leb 1 d && eqb due (stores_for d)) ≡ (precommitted && leb 1 d && eqb due commit)
same-due true zero due commit e = refl
same-due false zero due commit e = refl
same-due precommitted (suc d) due commit e = ap (λ (n : ℕ). precommitted && leb 1 (suc d) && eqb due n) (sym (e (omega arith)))

module _ (memory : Memory) (s done due : ℕ) where
  -- what a precommitted slot's commit changes is seen by the slot's bitmap alone
  entries-bare : valid (bare memory) ≡ true → IsBitmap (slot_at memory s).tam.words → is_precommitted (slot_at memory s).state ≡ true
      → changed_of memory s ≡ changed_words memory.sam.words (slot_at memory s).tam.words
  unfolding changed_of entries_of committed_sam changed_words
  entries-bare maps is e = ap length (entries-tam (bare memory) s (valid-parts (bare memory) maps) is (precommitted-active (slot_at memory s).state e))

  -- a commit's test
  pub commit_by_tam : valid (bare memory) ≡ true → IsBitmap (slot_at memory s).tam.words
      → pending_valid memory (Pending.Commit s done due)
      ≡ commit_valid (slot_at memory s).state memory.sam.words (slot_at memory s).tam.words done due
  unfolding pending_valid commit_valid
  commit_by_tam maps is = go (is_precommitted (slot_at memory s).state) refl
    where
      d : ℕ
      d = changed_words memory.sam.words (slot_at memory s).tam.words

      go : (t : Bool) → is_precommitted (slot_at memory s).state ≡ t
          → (t && leb 1 (changed_of memory s) && eqb due (commit_due memory s) && ltb done due) ≡ (t && leb 1 d && eqb due (stores_for d) && ltb done due)
      go false e = refl
      go true e =
          ap (λ (t : Bool). t && ltb done due) (sym (same-due true (changed_of memory s) due (commit_due memory s) (due_is memory s)))
          ∙ ap (λ (n : ℕ). leb 1 n && eqb due (stores_for n) && ltb done due) (entries-bare maps is e)

  -- a slot number above 7 has no precommitted slot
  pub commit_past : length memory.slots ≤ s → pending_valid memory (Pending.Commit s done due) ≡ false
  unfolding pending_valid
  commit_past past =
      ap (λ (slot : Slot). is_precommitted slot.state && leb 1 (changed_of memory s) && eqb due (commit_due memory s) && ltb done due)
      (get_or-eq_default memory.slots idle_slot past)
