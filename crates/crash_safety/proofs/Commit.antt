-- Commit keeps the invariant: it ends at once where no word changes, and else comes under count.
use Prim.Native.Nat.{ℕ}
use native.Mathlib.Omega.{arith}
use mathlib.Core.Path.{◌≡◌, refl, sym, ap, ap₂, ◌∙◌, subst}
use mathlib.Core.Bool.{Bool, true, false, not, cond, xor, ◌&&◌, ◌||◌, and-not_self}
use mathlib.Core.Option.{none}
use mathlib.Core.List.{List, ◌++◌}
use lib.Dec.{eqb}
use borrow.Author.Tests.{eqb-true}
use Rattle.bitmap.specs.Bits.{bit, IsBitmap}
use Rattle.bitmap.specs.Blocks.{member}
use Rattle.bitmap.proofs.Laws.Blocks.{member-append}
use Rattle.model_types.specs.declared.memory.Memory.{Memory}
use Rattle.model_types.specs.declared.memory.Pending.TheVariants.{Commit}
use Rattle.model_types.specs.Memory.{slot_at, is_active, sam_bit, tam_bit, with_pending}
use Rattle.model.specs.Rules.Commit.{committed_sam, entries_of, changed_of, commit_due, committed}
use Rattle.model.specs.Rules.Calls.Commit.{committing}
use Rattle.model.proofs.Laws.Calls.Accepted.{CommitAccepted}
use Rattle.model.proofs.Laws.Disk.Writes.{no-changes}
use Rattle.model.proofs.Laws.Memory.Valid.{ValidParts, valid-parts}
use Rattle.model.proofs.Laws.Commit.Commit.{committed-bits}
use Rattle.model.proofs.Laws.Commit.Committed.{committed-bitmap}
use Rattle.crash_safety.specs.Ledger.{Sets, sets_of, sets_words, counts, with_counting, holders}
use Rattle.crash_safety.specs.World.{World, world_of}
use Rattle.crash_safety.proofs.Invariant.{Tied, Plain, Related, Invariant, counting_of, same-disk}
use Rattle.crash_safety.proofs.Touching.{plain, active-taken, active-freed}
use Rattle.crash_safety.proofs.Count.{words-changed}
use Rattle.crash_safety.proofs.Committed.{committed-related}

-- what a slot has taken or freed, as one test
touched-either : (sam tam : Bool) → ((tam && not sam) || (sam && not tam)) ≡ xor sam tam
unfolding xor
touched-either true true = refl
touched-either true false = refl
touched-either false true = refl
touched-either false false = refl

module _ (memory : Memory) (s : ℕ) (sets : Sets) (parts : ValidParts memory) (sam : IsBitmap memory.sam.words)
    (active : is_active (slot_at memory s).state ≡ true)
    (tie : Tied (sam_bit memory) (slot_at memory s) sets) where
  -- the ledger's two sets are the blocks at which SAM changes
  sets-change : (b : ℕ) → member b (sets.taken ++ sets.freed) ≡ xor (sam_bit memory b) (bit (committed_sam memory s).words b)
  sets-change b =
      member-append b sets.taken sets.freed
      ∙ ap₂ ◌||◌ (active-taken (sam_bit memory) (slot_at memory s) sets tie active b) (active-freed (sam_bit memory) (slot_at memory s) sets tie active b)
      ∙ touched-either (sam_bit memory b) (tam_bit (slot_at memory s) b)
      ∙ sym (ap (xor (sam_bit memory b)) (committed-bits memory parts s active b))

  -- so the ledger counts the words that the commit changes
  pub same-words-counted : sets_words sets ≡ changed_of memory s
  unfolding sets_words changed_of entries_of
  same-words-counted =
      words-changed memory.sam.words (committed_sam memory s).words (sets.taken ++ sets.freed)
      sam.small (committed-bitmap memory s).small sets-change
      sam.size (committed-bitmap memory s).size

-- a commit that changes no word leaves SAM
pub unchanged : (memory : Memory) (s : ℕ) → IsBitmap memory.sam.words → changed_of memory s ≡ 0
    → memory.sam.words ≡ (committed_sam memory s).words
unfolding changed_of entries_of
unchanged memory s sam e = no-changes memory.sam.words (committed_sam memory s).words (sam.size ∙ sym (committed-bitmap memory s).size) e

module _ (w : World) (s : ℕ) (i : Invariant w) (a : CommitAccepted w.memory s) where
  related : Related w.memory w.ledger
  related = i.related a.ready.is_valid

  tied : Plain w.memory w.ledger none
  tied = plain w s i a.ready

  parts : ValidParts w.memory
  parts = valid-parts w.memory a.ready.is_valid

  -- d is 0
  ended : changed_of w.memory s ≡ 0 → Invariant (world_of (committed w.memory s) w.disk w.ledger)
  ended e =
      same-disk w (committed w.memory s) w.ledger i refl i.one_holder i.slots
      (λ _.
      committed-related w.memory w.ledger s parts a.active related.slots a.ready.below
      (λ b. sym (same b) ∙ tied.finds b)
      (λ t n. tied.slots t)
      (λ b.
      active-taken (sam_bit w.memory) (slot_at w.memory s) (sets_of w.ledger s) (tied.slots s) a.active b
      ∙ ap (λ (t : Bool). t && not (sam_bit w.memory b)) (untouched b)
      ∙ and-not_self (sam_bit w.memory b))
      (λ b.
      active-freed (sam_bit w.memory) (slot_at w.memory s) (sets_of w.ledger s) (tied.slots s) a.active b
      ∙ ap (λ (t : Bool). sam_bit w.memory b && not t) (untouched b)
      ∙ and-not_self (sam_bit w.memory b))
      tied.counted)
    where
      same : (b : ℕ) → sam_bit w.memory b ≡ bit (committed_sam w.memory s).words b
      same b = ap (λ (words : List ℕ). bit words b) (unchanged w.memory s related.sam e)

      untouched : (b : ℕ) → tam_bit (slot_at w.memory s) b ≡ sam_bit w.memory b
      untouched b = sym (committed-bits w.memory parts s a.active b) ∙ sym (same b)

  -- d is not 0
  begun : (due : ℕ) → Invariant (world_of (with_pending w.memory (Commit s 0 due)) w.disk (with_counting w.ledger (counting_of s 0)))
  unfolding holders
  begun due =
      same-disk w (with_pending w.memory (Commit s 0 due)) (with_counting w.ledger (counting_of s 0)) i refl i.one_holder i.slots
      (λ _.
      record {
        sam = related.sam;
        slots = related.slots;
        pending = ((λ _. record { finds = tied.finds; slots = tied.slots; counted = refl }), λ h. absurd (omega (arith, h)));
      })

  pub commit-keeps : Invariant (world_of (committing w.memory s) w.disk (counts w.ledger s))
  unfolding committing counts
  commit-keeps =
      subst
      (λ (n : ℕ). Invariant (world_of (committing w.memory s) w.disk (cond (eqb n 0) w.ledger (with_counting w.ledger (counting_of s 0)))))
      (sym (same-words-counted w.memory s (sets_of w.ledger s) parts related.sam a.active (tied.slots s)))
      (go (eqb (changed_of w.memory s) 0) refl)
    where
      go : (t : Bool) → eqb (changed_of w.memory s) 0 ≡ t
          → Invariant
          (world_of
          (cond t (committed w.memory s) (with_pending w.memory (Commit s 0 (commit_due w.memory s))))
          w.disk
          (cond t w.ledger (with_counting w.ledger (counting_of s 0))))
      go true e = ended (eqb-true (changed_of w.memory s) 0 e)
      go false e = begun (commit_due w.memory s)
