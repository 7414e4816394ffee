-- What 24 promises: up to its own reservation no slot is refused by it, with nothing reserved none is at all, and it comes last
-- (specs/Promises/Reservations.antt).
use Prim.Native.Nat.{ℕ, suc, ◌+◌, ◌≤◌}
use native.Mathlib.Omega.{arith}
use mathlib.Core.Path.{◌≡◌, refl, sym, ◌∙◌}
use mathlib.Core.Logic.{⊎_elim}
use mathlib.Core.Bool.{Bool, true, false, false≢true}
use mathlib.Core.Option.{some}
use mathlib.Core.List.{List, [], ◌∷◌}
use lib.ListN.{length, get_or}
use Rattle.model.specs.Types.{Reserve, Memory, ReservedForOthers}
use Rattle.model_types.specs.Memory.{reserve_at, no_reserve}
use Rattle.model.specs.Rules.Available.{available}
use Rattle.model.specs.Rules.Reserves.{total_reserved, others_reserved}
use Rattle.model.specs.Rules.Valid.{valid}
use Rattle.model.specs.Rules.Causes.{of_available, too_few_available, no_extent, reserved_for_others}
use Rattle.model.specs.Rules.CauseLists.{open_causes, of_slot}
use Rattle.model.specs.Rules.Calls.Allocate.{allocate_error, allocate_answer}
use Rattle.model.specs.Rules.Calls.AllocateExtent.{allocate_extent_error, allocate_extent_answer}
use Rattle.model.specs.Rules.Calls.CommitCost.{commit_cost_error, commit_cost_answer}
use Rattle.model.specs.Rules.Calls.Status.{counts}
use Rattle.model.specs.Promises.Reservations.{NeverForOthers, OwnNotForOthers, NoneForOthers, ReservedLast}
use Rattle.model.proofs.Laws.Calls.First.{some_after}
use Rattle.model.proofs.Laws.Calls.Answered.{told-refusal}
use Rattle.model.proofs.Laws.Memory.Reserves.{Spares, total-split}
use Rattle.model.proofs.Laws.Calls.Accepted.{enough-available, extent-found, spared-others}
use Rattle.model.proofs.Laws.Memory.Valid.{valid-parts}
use Rattle.model.proofs.Laws.Promises.Extents.{nearest-extent}

module _ (memory : Memory) (is_valid : valid memory ≡ true) where
  -- the slot's and the others' are available
  pub both-fit : (s : ℕ) → (reserve_at memory s).reservation + others_reserved memory.reserves s ≤ length (available memory)
  both-fit s = omega (arith, total-split memory.reserves s, (valid-parts memory is_valid).reserves_fit.total)

module _ (memory : Memory) (s count : ℕ) where
  -- what a refusal by 24 tells: the cause before it doesn't hold, and it does
  record ForOthers (earlier : Bool) : Type 0 where
    pub passed : earlier ≡ false
    pub holds : of_available reserved_for_others memory count (others_reserved memory.reserves s) ≡ true

  -- `cN` is what is left of a list from cause N on
  allocate-for-others : (list : List ℕ) → allocate_error memory s count list ≡ some ReservedForOthers → ForOthers (of_available too_few_available memory count)
  unfolding allocate_error
  allocate-for-others list e =
      let c15 = some_after (of_slot open_causes memory s) _ ReservedForOthers refl e in
      let c16 = c15.1 in
      let c17 = c16.1 in
      let c24 = c17.1 in
      record { passed = c17.0; holds = ⊎_elim (λ h. h) (λ never. absurd never) c24 }

  extent-for-others : (near : ℕ) (list : List ℕ) → allocate_extent_error memory s count near list ≡ some ReservedForOthers
      → ForOthers (no_extent memory count)
  unfolding allocate_extent_error
  extent-for-others near list e =
      let c15 = some_after (of_slot open_causes memory s) _ ReservedForOthers refl e in
      let c16 = c15.1 in
      let c18 = c16.1 in
      let c22 = c18.1 in
      let c24 = c22.1 in
      record { passed = c22.0; holds = ⊎_elim (λ h. h) (λ never. absurd never) c24 }

  cost-for-others : commit_cost_error memory s count ≡ some ReservedForOthers → ForOthers (of_available too_few_available memory count)
  unfolding commit_cost_error
  cost-for-others e =
      let c15 = some_after (of_slot open_causes memory s) _ ReservedForOthers refl e in
      let c17 = c15.1 in
      let c24 = c17.1 in
      record { passed = c17.0; holds = ⊎_elim (λ h. h) (λ never. absurd never) c24 }

  -- so where enough is left for the others no call is refused by it
  never-refused : Spares memory s count → NeverForOthers memory s count
  unfolding allocate_answer allocate_extent_answer commit_cost_answer
  never-refused spares =
      record {
        allocate = λ list refused. never (allocate-for-others list (told-refusal (allocate_error memory s count list) _ ReservedForOthers refused)).holds;
        extent = λ near list refused.
            never (extent-for-others near list (told-refusal (allocate_extent_error memory s count near list) _ ReservedForOthers refused)).holds;
        cost = λ refused. never (cost-for-others (told-refusal (commit_cost_error memory s count) _ ReservedForOthers refused)).holds;
      }
    where
      never : of_available reserved_for_others memory count (others_reserved memory.reserves s) ≡ true → ⊥
      never holds = false≢true (sym (spared-others memory s count spares) ∙ holds)

pub own-not-for-others : OwnNotForOthers
own-not-for-others memory is_valid s count own = never-refused memory s count (omega (arith, both-fit memory is_valid s))

-- with no reservation there is none of the others'
none-reserved : (reserves : List Reserve) → ((t : ℕ) → (get_or reserves t no_reserve).reservation ≡ 0) → total_reserved reserves ≡ 0
unfolding total_reserved
none-reserved [] none-at = refl
none-reserved (reserve ∷ reserves) none-at = omega (arith, none-at 0, none-reserved reserves (λ t. none-at (suc t)))

pub none-for-others : NoneForOthers
none-for-others memory none-at s count =
    never-refused memory s count (omega (arith, total-split memory.reserves s, none-reserved memory.reserves none-at))

pub reserved-last : ReservedLast
unfolding allocate_answer allocate_extent_answer commit_cost_answer counts
reserved-last memory s count =
    record {
      allocate = λ list refused.
          enough-available memory count
          (allocate-for-others memory s count list (told-refusal (allocate_error memory s count list) _ ReservedForOthers refused)).passed;
      extent = λ near list refused.
          let told = extent-for-others memory s count near list (told-refusal (allocate_extent_error memory s count near list) _ ReservedForOthers refused) in
          (_, nearest-extent memory count near (extent-found memory count told.passed));
      cost = λ refused.
          enough-available memory count
          (cost-for-others memory s count (told-refusal (commit_cost_error memory s count) _ ReservedForOthers refused)).passed;
    }
