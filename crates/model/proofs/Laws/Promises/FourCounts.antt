-- What the counts of status promise (specs/Promises/FourCounts.antt).
use Prim.Native.Nat.{ℕ, ◌-◌}
use native.Mathlib.Omega.{arith}
use mathlib.Core.Path.{◌≡◌, refl, ap, sym, ◌∙◌}
use mathlib.Core.Logic.{⊎_elim}
use mathlib.Core.Bool.{true, not, false≢true}
use mathlib.Core.Option.{none, some}
use mathlib.Core.List.{List, [], ◌∷◌, ◌++◌}
use lib.ListN.{length}
use borrow.Author.Tests.{le-leb, lt-ltb, le-ltb}
use Rattle.bitmap.specs.Sizes.{max_count, count_in_range}
use Rattle.bitmap.proofs.Laws.Count.{allocated-parts, four-kinds}
use Rattle.model.specs.Types.{Memory, MemoryInvalid, CountRange, ListShort, TooFewAvailable}
use Rattle.model_types.specs.Answers.{answer}
use Rattle.model.specs.Rules.First.{Cause, first, first_or, ◌⇒◌}
use Rattle.model.specs.Rules.Valid.{valid}
use Rattle.model.specs.Rules.Available.{available}
use Rattle.model.specs.Rules.Reserves.{others_reserved}
use Rattle.model.specs.Rules.Causes.{of_available, memory_invalid, count_out_of_range, list_short, too_few_available, reserved_for_others}
use Rattle.model.specs.Rules.CauseLists.{open_causes, of_slot, count_causes, enough_causes}
use Rattle.model.specs.Rules.Calls.Allocate.{allocate_error, allocate_answer}
use Rattle.model.specs.Rules.Calls.Status.{status_error, allocated, counts, status_answer}
use Rattle.model.specs.Promises.FourCounts.{StatusAnswersCounts, FourAddUp, AllocatedIsFreeingAndHeld, AvailableIsCompared, Eligible, AvailableCanBeHad}
use Rattle.model.specs.Rules.Calls.Precommit.{precommit_error}
use Rattle.model_types.specs.Memory.{is_active, is_precommitted}
use Rattle.model.proofs.Laws.Calls.First.{cause-passed, none_first, none-append, some_after}
use Rattle.model.proofs.Laws.Calls.Answered.{told-refusal}
use Rattle.model.proofs.Laws.Calls.Accepted.{accepted-precommit}

pub status-answers-counts : StatusAnswersCounts
unfolding status_answer status_error memory_invalid answer
status-answers-counts memory is_valid = rw (none_first (not (valid memory) ⇒ MemoryInvalid ∷ []) (ap not is_valid, tt))

pub four-add-up : FourAddUp
unfolding counts available
four-add-up memory is_valid = four-kinds memory.blocks memory.sam.words memory.com.words

pub allocated-is-freeing-and-held : AllocatedIsFreeingAndHeld
unfolding counts allocated
allocated-is-freeing-and-held memory is_valid = allocated-parts memory.blocks memory.sam.words memory.com.words

pub available-is-compared : AvailableIsCompared
unfolding counts too_few_available available
available-is-compared memory is_valid count = refl

-- ---- an allocate and cause 17

-- refused by 17, there are too few: `cN` is what is left of the list from cause N on
too_few : (memory : Memory) (s count : ℕ) (list : List ℕ) → allocate_error memory s count list ≡ some TooFewAvailable
    → of_available too_few_available memory count ≡ true
unfolding allocate_error
too_few memory s count list e =
    let c15 = some_after (of_slot open_causes memory s) _ TooFewAvailable refl e in
    let c16 = c15.1 in
    let c17 = c16.1 in
    ⊎_elim (λ h. h) (λ c24. absurd c24.1) c17

module _ (memory : Memory) (s count : ℕ) (list : List ℕ) (is_valid : valid memory ≡ true) (eligible : Eligible memory s count list) where
  -- of an eligible call no cause up to 13 holds
  pub eligible-open : precommit_error memory s ≡ none
  eligible-open =
      accepted-precommit memory s
      (record {
        ready = record { is_valid = is_valid; none_pending = eligible.none_pending; below = eligible.below };
        active = ap is_active eligible.is_open;
        not_precommitted = ap is_precommitted eligible.is_open;
      })

  -- and neither does 15 or 16
  pub eligible-room : (more : List Cause) → first (count_causes count list ++ more) ≡ first more
  unfolding count_out_of_range count_in_range list_short
  eligible-room more =
      cause-passed (count_out_of_range count) CountRange _ (rw (le-leb 1 count eligible.some, le-leb count max_count eligible.few))
      ∙ cause-passed (list_short list count) ListShort more (le-ltb (length list) count eligible.room)

  -- so 17 decides, and then 24
  decides : allocate_error memory s count list
      ≡ first (of_available enough_causes memory count (others_reserved memory.reserves s))
  unfolding allocate_error precommit_error
  decides = none-append _ _ eligible-open ∙ eligible-room _

pub available-can-be-had : AvailableCanBeHad
unfolding counts allocate_answer too_few_available reserved_for_others available answer first first_or
available-can-be-had memory is_valid =
    record {
      never =
          λ s count list enough refused.
          let few = too_few memory s count list (told-refusal (allocate_error memory s count list) _ TooFewAvailable refused) in
          false≢true (sym (le-ltb (length (available memory)) count enough) ∙ few);
      granted = λ s count list eligible enough.
          rw (
            decides memory s count list is_valid eligible,
            le-ltb (length (available memory)) count (omega (arith, enough)),
            le-ltb (length (available memory) - count) (others_reserved memory.reserves s) (omega (arith, enough)),
          );
      reserved = λ s count list eligible enough few.
          rw (
            decides memory s count list is_valid eligible,
            le-ltb (length (available memory)) count enough,
            lt-ltb (length (available memory) - count) (others_reserved memory.reserves s) (omega (arith, enough, few)),
          );
      always = λ s count list eligible few. rw (decides memory s count list is_valid eligible, lt-ltb (length (available memory)) count few);
    }
