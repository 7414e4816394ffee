-- What a valid memory tells of its pending work, by its kind: the commit's slot and the SAM that it makes, the stores due, and the
-- recovery's log.
use Prim.Native.Nat.{ℕ, ◌≤◌, ◌<◌}
use native.Mathlib.Omega.{arith}
use mathlib.Core.Path.{◌≡◌, refl, sym, ap, ◌∙◌}
use mathlib.Core.Bool.{true, false}
use mathlib.Core.List.{List}
use lib.ListN.{length, get_or}
use Rattle.bitmap.specs.Sizes.{max_blocks, slot_count}
use Rattle.model_types.specs.declared.memory.Slot.{Slot}
use Rattle.model_types.specs.declared.memory.Memory.{Memory}
use Rattle.model_types.specs.declared.memory.Pending.TheVariants.{Commit, Recovery}
use Rattle.model_types.specs.Memory.{slot_at, is_active}
use Rattle.model_types.specs.Pending.{is_nothing, stores_for}
use Rattle.model.specs.Rules.Stores.{Store, changes}
use Rattle.model.specs.Rules.Commit.{entries_of, changed_of}
use Rattle.model.specs.Rules.Disk.{log_length, disk_matches}
use Rattle.model.specs.Rules.Valid.{valid, pending_valid}
use Rattle.model.proofs.Laws.Commit.CommittedTam.{valid-entries-tam}
use Rattle.model.proofs.Laws.Disk.Matching.{recovery-matches, matching-parts}
use Rattle.model.proofs.Laws.Memory.Valid.{valid-parts}
use Rattle.model.proofs.Laws.Works.Pending.{CommitParts, commit-parts, RecoveryParts, recovery-parts, precommitted-active, precommitted-below, unfinished}
use Rattle.disk_log.specs.Given.{Logged}
use Rattle.model_types.specs.Shape.{HasShape}
use Rattle.verdicts.proofs.Laws.Ready.{slot-is}
use Rattle.store.specs.Progress.{StoreLeft}

-- a store is left
pub left : (memory : Memory) → valid memory ≡ true → is_nothing memory.pending ≡ false → StoreLeft memory.pending
left memory v = unfinished memory memory.pending (valid-parts memory v).pending_fits

-- no volume has more blocks than the words of a bitmap have bits
pub few_blocks : (memory : Memory) → valid memory ≡ true → memory.blocks ≤ max_blocks
few_blocks memory v = (valid-parts memory v).few_blocks

-- ---- a commit

module _ (memory : Memory) (s done due : ℕ) (shape : HasShape memory) (v : valid memory ≡ true) (e : memory.pending ≡ Commit s done due) where
  tested : CommitParts memory s done due
  tested = commit-parts memory s done due (ap (pending_valid memory) (sym e) ∙ (valid-parts memory v).pending_fits)

  pub commit_left : done < due
  commit_left = tested.not_ended

  pub commit_below : s < slot_count
  commit_below = precommitted-below memory s shape.slots tested.precommitted

  pub commit-active : is_active (slot_at memory s).state ≡ true
  commit-active = precommitted-active (slot_at memory s).state tested.precommitted

  -- the slot that is read, and the words that it changes
  pub owner-is : (d : Slot) → get_or memory.slots s d ≡ slot_at memory s
  owner-is d = slot-is d shape refl commit_below

  pub entries-is : (d : Slot) → changes memory.sam.words (get_or memory.slots s d).tam.words ≡ entries_of memory s
  entries-is d = ap (λ (slot : Slot). changes memory.sam.words slot.tam.words) (owner-is d) ∙ sym (valid-entries-tam memory s v (shape.tam s) commit-active)

  pub due_is : (d : Slot) → due ≡ stores_for (length (changes memory.sam.words (get_or memory.slots s d).tam.words))
  unfolding changed_of
  due_is d = tested.due_is ∙ ap (λ (es : List Store). stores_for (length es)) (sym (entries-is d))

-- ---- a recovery

module _ (memory : Memory) (done due : ℕ) (v : valid memory ≡ true) (e : memory.pending ≡ Recovery done due) where
  logged : RecoveryParts memory done due
  logged = recovery-parts memory done due (ap (pending_valid memory) (sym e) ∙ (valid-parts memory v).pending_fits)

  pub recovery_left : done < due
  recovery_left = logged.not_ended

  -- the log of a disk that matches it
  pub in-recovery : (disk : List ℕ) → disk_matches memory disk memory.pending ≡ true → Logged disk × (done ≤ log_length disk)
  in-recovery disk m =
      let parts = matching-parts memory.blocks memory.sam.words disk done due (sym (recovery-matches memory disk done due) ∙ sym (ap (disk_matches memory disk) e) ∙ m) in
      (record { few_blocks = omega (arith, few_blocks memory v, parts.blocks_is); log = parts.log }, omega (arith, recovery_left, parts.due_is))
