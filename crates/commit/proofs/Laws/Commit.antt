-- Commit: the stores due by the words of the slot's TAM, and what it leaves.
use Prim.Native.Nat.{ℕ}
use native.Mathlib.Omega.{arith}
use mathlib.Core.Path.{◌≡◌, refl, sym, ap, ◌∙◌}
use mathlib.Core.Bool.{Bool, true, false, cond}
use mathlib.Core.List.{List}
use lib.ListN.{length, set}
use lib.Dec.{eqb}
use borrow.Author.Tests.{eq-eqb, ne_eqb, eqb-true, eqb-false}
use Rattle.model_types.specs.declared.memory.Slot.{Slot}
use Rattle.model_types.specs.declared.memory.Pending.TheVariants.{Commit}
use Rattle.model_types.specs.declared.memory.Memory.{Memory}
use Rattle.model_types.specs.Memory.{slot_at, with_pending, with_slots, idle_slot}
use Rattle.model_types.specs.Pending.{stores_for}
use Rattle.model.specs.Rules.Stores.{changes}
use Rattle.model.specs.Rules.Commit.{changed_of, commit_due}
use Rattle.model.specs.Rules.Calls.Commit.{committing}
use Rattle.model.proofs.Laws.Memory.Valid.{ValidParts, valid-parts}
use Rattle.model.proofs.Laws.Calls.Accepted.{CommitAccepted}
use Rattle.model.proofs.Laws.Works.Pending.{commit-due}
use Rattle.model.proofs.Laws.Commit.CommittedTam.{committed-tam, entries-tam}
use Rattle.model_types.specs.Shape.{HasShape}
use Rattle.commit.specs.Due.{due_for}
use Rattle.commit.proofs.Laws.Unchanged.{unchanged-committed}

module _ (memory : Memory) (s : ℕ) (shape : HasShape memory) (told : CommitAccepted memory s) where
  parts : ValidParts memory
  parts = valid-parts memory told.ready.is_valid

  -- d, by the words of TAM
  changed-tam : length (changes memory.sam.words (slot_at memory s).tam.words) ≡ changed_of memory s
  unfolding changed_of
  changed-tam = ap length (sym (entries-tam memory s parts (shape.tam s) told.active))

  -- 3·d + 2, or none
  stores-due : due_for (changed_of memory s) ≡ commit_due memory s
  unfolding commit_due
  stores-due = go (eqb (changed_of memory s) 0) refl
    where
      go : (t : Bool) → eqb (changed_of memory s) 0 ≡ t → cond t 0 (stores_for (changed_of memory s)) ≡ commit_due memory s
      go true e = rw e
      go false e = sym (commit-due memory s (omega (arith, eqb-false (changed_of memory s) 0 e)))

  -- as they are counted where the slot is looked at
  pub stores-are : {n : ℕ} {own : Slot} → own ≡ slot_at memory s → n ≡ due_for (length (changes memory.sam.words own.tam.words)) → n ≡ commit_due memory s
  stores-are own-is e =
      e
      ∙ ap (λ (slot : Slot). due_for (length (changes memory.sam.words slot.tam.words))) own-is
      ∙ ap due_for changed-tam
      ∙ stores-due

  -- none where no word changes
  none-changed : commit_due memory s ≡ 0 → changed_of memory s ≡ 0
  none-changed z = go (eqb (changed_of memory s) 0) refl
    where
      go : (t : Bool) → eqb (changed_of memory s) 0 ≡ t → changed_of memory s ≡ 0
      go true e = eqb-true (changed_of memory s) 0 e
      go false e = absurd (omega (arith, z, commit-due memory s (omega (arith, eqb-false (changed_of memory s) 0 e))))

  module _ {n at : ℕ} (is : n ≡ commit_due memory s) (at-is : at ≡ s) where
    -- no store is due where no word changes: the slot is idle, and all else as before
    pub none_left : {slots : List Slot} {idle : Slot} → n ≡ 0 → slots ≡ memory.slots → idle ≡ idle_slot
        → with_slots memory (set slots at idle) ≡ committing memory s
    unfolding committing
    none_left z slots-are idle-is =
        let none = none-changed (sym is ∙ z) in
        let made = committed-tam memory s parts (shape.tam s) told.active in
        rw (slots-are, at-is, idle-is)
        (unchanged-committed memory s shape parts told.ready.below told.ready.none_pending made (changed-tam ∙ none)
        ∙ rw (eq-eqb (changed_of memory s) 0 none))

    -- else its stores are pending
    pub some_left : {slots : List Slot} → (n ≡ 0 → ⊥) → slots ≡ memory.slots → with_pending (with_slots memory slots) (Commit s 0 n) ≡ committing memory s
    unfolding committing
    some_left some slots-are = rw (slots-are, is, ne_eqb (changed_of memory s) 0 (λ z. some (is ∙ sym stores-due ∙ ap due_for z)))
