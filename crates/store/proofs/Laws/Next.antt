-- The next store: whether the disk fits it, and what it makes of the disk and of the memory.
use Prim.Native.Nat.{ℕ, ◌+◌, ◌<◌}
use native.Mathlib.Omega.{arith}
use mathlib.Core.Path.{◌≡◌, refl, sym, ap, ◌∙◌}
use mathlib.Core.Bool.{Bool, true}
use mathlib.Core.List.{List}
use lib.ListN.{length, get_or, set, take, drop}
use borrow.Author.Tests.{eq-eqb, ne_eqb}
use Rattle.std.proofs.lemmas.List.{get_or_default}
use Rattle.model_types.specs.declared.memory.Slot.{Slot}
use Rattle.model_types.specs.declared.memory.Reserve.{Reserve}
use Rattle.model_types.specs.declared.memory.Memory.{Memory}
use Rattle.model_types.specs.declared.memory.Pending.{Pending}
use Rattle.model_types.specs.declared.memory.Pending.TheVariants.{Nothing, Commit, Recovery}
use Rattle.model_types.specs.Memory.{no_reserve, with_sam, with_slots, with_reserves, with_pending}
use Rattle.model.specs.Rules.Commit.{entries_of}
use Rattle.model.specs.Rules.Reserves.{used_up}
use Rattle.model.specs.Rules.Stores.{Store, writes, changes, commit_stores, checkpoint_stores}
use Rattle.model.specs.Rules.Pending.{stores_done, stores_due, one_more_done, new_sam, finished}
use Rattle.model.specs.Rules.Valid.{valid}
use Rattle.model.specs.Rules.Disk.{log_entries, stores_of, next_disk, image_matches, disk_matches}
use Rattle.model.specs.Rules.Calls.Store.{still_due, advanced, next_stored}
use Rattle.model.proofs.Laws.Disk.Matching.{commit-matches}
use Rattle.model.proofs.Laws.Memory.Valid.{valid-parts}
use Rattle.model_types.specs.Shape.{HasShape}
use Rattle.ending.specs.Ended.{ended_slots}
use Rattle.ending.proofs.Laws.Ended.{committed-parts}
use Rattle.store.specs.Progress.{StoreLeft}
use Rattle.store.proofs.Laws.Work.{commit_below, commit-active, owner-is, entries-is}

-- ---- the disk

module _ (memory : Memory) (disk : List ℕ) where
  pub nothing_stored : memory.pending ≡ Nothing → disk ≡ next_stored memory disk
  unfolding next_stored next_disk stores_of stores_done writes
  nothing_stored e = rw e refl

  pub recovery_stored : (done due : ℕ) → memory.pending ≡ Recovery done due
      → writes (take 1 (drop done (checkpoint_stores (log_entries disk)))) disk ≡ next_stored memory disk
  unfolding next_stored next_disk stores_of stores_done new_sam
  recovery_stored done due e = rw e refl

module _ (memory : Memory) (s done due : ℕ) (shape : HasShape memory) (v : valid memory ≡ true) (e : memory.pending ≡ Commit s done due) where
  pub commit_matched : {r : Bool} (d : Slot) (disk : List ℕ)
      → r ≡ image_matches memory.blocks memory.sam.words disk done (commit_stores (changes memory.sam.words (get_or memory.slots s d).tam.words))
      → r ≡ disk_matches memory disk memory.pending
  commit_matched d disk h =
      h
      ∙ ap (λ (es : List Store). image_matches memory.blocks memory.sam.words disk done (commit_stores es)) (entries-is memory s done due shape v e d)
      ∙ sym (ap (disk_matches memory disk) e ∙ commit-matches memory disk s done due)

  pub commit_stored : (d : Slot) (disk : List ℕ)
      → writes (take 1 (drop done (commit_stores (changes memory.sam.words (get_or memory.slots s d).tam.words)))) disk ≡ next_stored memory disk
  unfolding next_stored next_disk stores_of stores_done new_sam entries_of
  commit_stored d disk =
      ap (λ (es : List Store). writes (take 1 (drop done (commit_stores es))) disk) (entries-is memory s done due shape v e d)
      ∙ rw e refl

  -- ---- the memory

  -- a commit's last store
  pub commit-finished : {slots : List Slot} {reserve : Reserve} (d : Slot) (d' : Reserve)
      → slots ≡ ended_slots memory.sam.words (get_or memory.slots s d).tam.words memory.slots s
      → reserve ≡ used_up (get_or memory.reserves s d')
      → with_pending
      (with_reserves (with_slots (with_sam memory (get_or memory.slots s d).tam) slots) (set memory.reserves s reserve))
      Nothing
      ≡ finished memory memory.pending
  unfolding finished
  commit-finished d d' slots-are reserve-is =
      let there : s < length memory.reserves = omega (arith, shape.reserves, commit_below memory s done due shape v e) in
      rw (slots-are, reserve-is, owner-is memory s done due shape v e d, get_or_default memory.reserves s d' no_reserve there)
      (committed-parts memory s shape (valid-parts memory v) (commit-active memory s done due shape v e) ∙ sym (ap (finished memory) e))

-- another work's
pub other-finished : (memory : Memory) → ((s done due : ℕ) → memory.pending ≡ Commit s done due → ⊥) → with_pending memory Nothing ≡ finished memory memory.pending
unfolding finished
other-finished memory not-commit = go memory.pending refl
  where
    go : (p : Pending) → memory.pending ≡ p → with_pending memory Nothing ≡ finished memory p
    go Nothing e = ap (with_pending memory) (sym e)
    go (Commit s done due) e = absurd (not-commit s done due e)
    go (Recovery done due) e = refl

-- the last store, and any other
module _ (memory : Memory) (pending : Pending) where
  pub last_store : StoreLeft pending → still_due pending ≡ 0 → finished memory pending ≡ advanced memory pending
  unfolding still_due advanced
  last_store l e = rw (eq-eqb (stores_done pending + 1) (stores_due pending) (omega (arith, l, e))) refl

  pub other_store : (still_due pending ≡ 0 → ⊥) → with_pending memory (one_more_done pending) ≡ advanced memory pending
  unfolding still_due advanced
  other_store n = rw (ne_eqb (stores_done pending + 1) (stores_due pending) (λ q. n (omega (arith, q)))) refl
