-- What the check answers by the four tests.
use Prim.Native.Nat.{ℕ, ◌≤◌, ◌<◌}
use mathlib.Core.Path.{◌≡◌, refl, sym, ap, ◌∙◌}
use mathlib.Core.Bool.{Bool, true, false, ◌&&◌, false≢true}
use mathlib.Core.List.{[]}
use lib.ListN.{length}
use borrow.Author.Tests.{le-leb, lt-leb}
use Rattle.std.specs.Prelude.{Option, Ok, Err}
use Rattle.model.specs.Types.{MemoryInvalid}
use Rattle.model.specs.Rules.First.{first, first_or}
use Rattle.model.specs.Rules.Causes.{memory_invalid}
use Rattle.model.specs.Rules.Calls.Status.{status_error}
use Rattle.model.specs.Rules.Available.{available}
use Rattle.model.specs.Rules.Reserves.{total_reserved}
use Rattle.model.specs.Rules.Valid.{reservations_fit, drawn_fit, pending_valid, valid}
use Rattle.model.proofs.Laws.Disk.Writes.{and_both}
use Rattle.model_types.specs.declared.memory.Memory.{Memory}
use Rattle.model_types.specs.Answers.{answer}
use Rattle.validity.specs.Checked.{bare}
use Rattle.validity.specs.Fit.{drawn_fits}
use Rattle.validity.proofs.Laws.Reserved.{drawn_whole, valid-four}

module _ (memory : Memory) (given : Option ℕ) where
  -- by whether the memory is valid
  by_valid : (t : Bool) → valid memory ≡ t → answer (first_or (memory_invalid t) MemoryInvalid (first [])) given ≡ answer (status_error memory) given
  unfolding status_error first
  by_valid t e = ap (λ (v : Bool). answer (first_or (memory_invalid v) MemoryInvalid (first [])) given) (sym e)

  wrong : valid memory ≡ false → Err MemoryInvalid ≡ answer (status_error memory) given
  unfolding first first_or memory_invalid answer
  wrong e = by_valid false e

  -- one of three tests is false
  pub refused : (valid (bare memory) && drawn_fits memory.sam.words memory.slots memory.reserves && pending_valid memory memory.pending) ≡ false
      → Err MemoryInvalid ≡ answer (status_error memory) given
  refused e =
      wrong
      (valid-four memory
      ∙ go (valid (bare memory)) (reservations_fit memory) (drawn_fit memory) (pending_valid memory memory.pending)
      (sym (whole (valid (bare memory)) (pending_valid memory memory.pending) (drawn_whole memory)) ∙ e))
    where
      go : (a b c d : Bool) → (a && c && d) ≡ false → (a && b && c && d) ≡ false
      go false b c d e = refl
      go true false c d e = refl
      go true true c d e = e

      -- what is drawn is counted in whole bitmaps
      whole : (a d : Bool) → (a ≡ true → drawn_fits memory.sam.words memory.slots memory.reserves ≡ drawn_fit memory)
          → (a && drawn_fits memory.sam.words memory.slots memory.reserves && d) ≡ (a && drawn_fit memory && d)
      whole false d e = refl
      whole true d e = ap (λ (c : Bool). c && d) (e refl)

  -- more is reserved than is available
  pub over_reserved : length (available memory) < total_reserved memory.reserves → Err MemoryInvalid ≡ answer (status_error memory) given
  unfolding reservations_fit
  over_reserved h = wrong (valid-four memory ∙ go (valid (bare memory)) (reservations_fit memory) (drawn_fit memory) (pending_valid memory memory.pending) (lt-leb _ _ h))
    where
      go : (a b c d : Bool) → b ≡ false → (a && b && c && d) ≡ false
      go false false c d e = refl
      go true false c d e = refl
      go a true c d e = absurd (false≢true (sym e))

  -- all four are true
  pub accepted : valid (bare memory) ≡ true → drawn_fits memory.sam.words memory.slots memory.reserves ≡ true → pending_valid memory memory.pending ≡ true
      → total_reserved memory.reserves ≤ length (available memory)
      → Ok given ≡ answer (status_error memory) given
  unfolding first first_or memory_invalid answer reservations_fit
  accepted maps drawn pending h =
      by_valid true (valid-four memory ∙ and_both (and_both (and_both maps (le-leb _ _ h)) (sym (drawn_whole memory maps) ∙ drawn)) pending)
