-- What commit cost promises (specs/Promises/CommitCost.antt): a commit makes at most so many stores.
use Prim.Native.Nat.{ℕ, ◌+◌, ◌≤◌, ◌<◌, min}
use native.Mathlib.Nat.{le-min, min-le_right}
use native.Mathlib.Omega.{arith}
use mathlib.Core.Path.{◌≡◌, refl, ap, ◌∙◌}
use mathlib.Core.Bool.{Bool, true, false, cond}
use mathlib.Core.Option.{Option}
use mathlib.Core.List.{List}
use lib.ListN.{length, get_or}
use lib.Dec.{eqb}
use borrow.Author.Tests.{eqb-false, eq-eqb, ne_eqb}
use Rattle.bitmap.specs.Bits.{IsBitmap}
use Rattle.model.specs.Types.{Error, Precommitted, Slot, Memory, Ok}
use Rattle.model_types.specs.Answers.{answer}
use Rattle.model_types.specs.Pending.{stores_for}
use Rattle.model_types.specs.Memory.{slot_at, with_state, is_active, is_precommitted, volume_words}
use Rattle.model.specs.Rules.First.{unless_refused}
use Rattle.model.specs.Rules.Commit.{changed_of, commit_due}
use Rattle.model.specs.Rules.Touched.{touched_blocks}
use Rattle.model.specs.Rules.Calls.Allocate.{allocate_error, first_met, taking, allocate_answer, allocate_memory}
use Rattle.model.specs.Rules.Calls.Precommit.{precommitting, precommit_answer, precommit_memory}
use Rattle.model.specs.Rules.Calls.Commit.{commit_answer}
use Rattle.model.specs.Rules.Calls.Status.{counts}
use Rattle.model.specs.Rules.Calls.CommitCost.{commit_cost_error, cost_for, commit_cost, commit_cost_answer}
use Rattle.model.specs.Promises.FourCounts.{Eligible}
use Rattle.model.specs.Promises.CommitCost.{CommitsWithin, CommitCostKept, CommitCostAnswered, CommitCostAtMost}
use Rattle.model.proofs.Laws.Memory.Fields.{open-state, slot_same, active-there}
use Rattle.model.proofs.Laws.Calls.Answered.{told-answer}
use Rattle.model.proofs.Laws.Memory.Valid.{ValidParts, valid-parts, parts-valid}
use Rattle.model.proofs.Laws.Calls.Accepted.{PrecommitAccepted, CommitAccepted, accepted-precommit, accepted-commit, CommitCostAccepted, commit-cost-accepted, accepted-commit-cost}
use Rattle.model.proofs.Laws.Promises.FourCounts.{available-can-be-had}
use Rattle.model.proofs.Laws.Works.Pending.{commit-due}
use Rattle.model.proofs.Laws.Memory.Untouched.{precommitted-valid}
use Rattle.model.proofs.Laws.Memory.Taking.{grant-valid, taking-state, met-available, met-distinct, met-length}
use Rattle.model.proofs.Laws.Touched.TouchedBlocks.{changed-touched, changed-words}
use Rattle.model.proofs.Laws.Touched.TouchedBy.{touched_by, active-touched, none_more, taking-touches, precommitting-touches}

-- ---- the stores of a commit

-- a commit that changes no more words than so many blocks, and no more than W
pub due-within : (memory : Memory) (s blocks : ℕ) → changed_of memory s ≤ blocks → changed_of memory s ≤ volume_words memory
    → commit_due memory s ≤ cost_for (volume_words memory) blocks
unfolding commit_due cost_for
due-within memory s blocks few words = go (eqb (changed_of memory s) 0) refl
  where
    go : (t : Bool) → eqb (changed_of memory s) 0 ≡ t → commit_due memory s ≤ cost_for (volume_words memory) blocks
    go true e = rw e (omega arith)
    go false e =
        let some : 1 ≤ changed_of memory s = omega (arith, eqb-false (changed_of memory s) 0 e) in
        rw (commit-due memory s some, ne_eqb blocks 0 (λ z. omega (arith, z, some, few)))
        (omega (arith, le-min few words))

-- ---- a slot's precommit and commit

-- of a slot that has touched no more than so many blocks
module _ (memory : Memory) (s blocks : ℕ) (a : PrecommitAccepted memory s) (is : IsBitmap memory.sam.words)
    (few : touched_by memory s ≤ blocks) where
  there : s < length memory.slots
  there = active-there memory s a.active

  abbrev after : Memory
  after = precommitting memory s

  parts-after : ValidParts after
  parts-after = precommitted-valid memory s (valid-parts memory a.ready.is_valid) a.ready.none_pending there a.active

  slot-after : slot_at after s ≡ with_state (slot_at memory s) Precommitted
  unfolding precommitting
  slot-after = slot_same memory s _ there

  active-after : is_active (slot_at after s).state ≡ true
  active-after = ap (λ (slot : Slot). is_active slot.state) slot-after

  -- both are accepted
  commit-ready : CommitAccepted after s
  unfolding precommitting
  commit-ready =
      record {
        ready = record { is_valid = parts-valid after parts-after; none_pending = a.ready.none_pending; below = a.ready.below };
        active = active-after;
        precommitted = ap (λ (slot : Slot). is_precommitted slot.state) slot-after;
      }

  -- and the commit changes no more words than there are touched blocks
  within-after : commit_due after s ≤ cost_for (volume_words memory) blocks
  unfolding precommitting
  within-after =
      due-within after s blocks
      (omega (
        arith,
        changed-touched after s parts-after active-after is,
        active-touched after s active-after,
        (none_more (eqb s s) (precommitting-touches memory s s there a.active)).few,
        few,
      ))
      (changed-words after s parts-after active-after)

  pub commits-within : CommitsWithin memory s (cost_for (volume_words memory) blocks)
  unfolding precommit_answer precommit_memory commit_answer answer unless_refused
  commits-within =
      let accepted = accepted-precommit memory s a in
      record {
        precommits = ap (λ (error : Option Error). answer error 0) accepted;
        stores = commit_due after s;
        commits = rw (accepted, accepted-commit after s commit-ready);
        within = within-after;
      }

-- ---- the promise

module _ (memory : Memory) (s count : ℕ) (is : IsBitmap memory.sam.words) (a : CommitCostAccepted memory s count) where
  parts : ValidParts memory
  parts = valid-parts memory a.ready.is_valid

  -- the transaction as it stands
  stands : CommitsWithin memory s (commit_cost memory s count)
  unfolding commit_cost
  stands =
      commits-within memory s (length (touched_blocks memory s) + count)
      (record { ready = a.ready; active = a.active; not_precommitted = a.not_precommitted }) is
      (omega (arith, active-touched memory s a.active))

  module _ (list : List ℕ) (some : 1 ≤ count) (room : count ≤ length list) where
    eligible : Eligible memory s count list
    eligible =
        record {
          none_pending = a.ready.none_pending;
          below = a.ready.below;
          is_open = open-state (slot_at memory s).state a.active a.not_precommitted;
          some = some;
          few = a.few;
          room = room;
        }

    -- the allocate is granted
    allocates : allocate_answer memory s count list ≡ Ok (get_or (first_met memory count) 0 0)
    unfolding counts
    allocates = (available-can-be-had memory a.ready.is_valid).granted s count list eligible (omega (arith, a.enough, a.spares))

    abbrev taken : Memory
    taken = taking memory s (first_met memory count)

    own-after : (slot_at taken s).state ≡ (slot_at memory s).state
    own-after = taking-state memory s (first_met memory count) (active-there memory s a.active)

    -- after it the slot can still precommit
    still_open : PrecommitAccepted taken s
    unfolding taking
    still_open =
        let there = active-there memory s a.active in
        let size = met-length memory count parts.cursor_below a.enough in
        let valid-after =
        grant-valid memory s (first_met memory count) (met-available memory count parts.cursor_below) parts a.ready.none_pending there a.active
        (met-distinct memory count)
        (omega (arith, size, a.spares)) in
        record {
          ready = record { is_valid = parts-valid taken valid-after; none_pending = a.ready.none_pending; below = a.ready.below };
          active = ap is_active own-after ∙ a.active;
          not_precommitted = ap is_precommitted own-after ∙ a.not_precommitted;
        }

    -- and has touched no more than the count besides
    within-taken : CommitsWithin taken s (commit_cost memory s count)
    unfolding commit_cost taking
    within-taken =
        commits-within taken s (length (touched_blocks memory s) + count) still_open is
        (omega (
          arith,
          (taking-touches memory s s (active-there memory s a.active) parts (first_met memory count)).few,
          ap {B = ℕ} (λ (t : Bool). cond t (length (first_met memory count)) 0) (eq-eqb s s refl),
          active-touched memory s a.active,
          met-length memory count parts.cursor_below a.enough,
        ))

    within-allocated : CommitsWithin (allocate_memory memory s count list) s (commit_cost memory s count)
    unfolding allocate_memory allocate_answer unless_refused
    within-allocated = rw (told-answer (allocate_error memory s count list) _ _ allocates).0 within-taken

pub commit-cost-kept : CommitCostKept
unfolding commit_cost_answer
commit-cost-kept memory is_valid is s count cost answered =
    let e = told-answer (commit_cost_error memory s count) (commit_cost memory s count) cost answered in
    let a = commit-cost-accepted memory s count e.0 in
    rw (← e.1)
    (record {
      as_it_stands = stands memory s count is a;
      allocates = λ list some room. allocates memory s count is a list some room;
      allocated = λ list some room. within-allocated memory s count is a list some room;
    })

pub commit-cost-answered : CommitCostAnswered
unfolding commit_cost_answer answer counts
commit-cost-answered memory is_valid s count nothing below is_open few enough =
    ap (λ (error : Option Error). answer error (commit_cost memory s count))
    (accepted-commit-cost memory s count
    (record {
      ready = record { is_valid = is_valid; none_pending = nothing; below = below };
      active = ap is_active is_open;
      not_precommitted = ap is_precommitted is_open;
      few = few;
      enough = omega (arith, enough);
      spares = omega (arith, enough);
    }))

pub commit-cost-at-most : CommitCostAtMost
unfolding commit_cost cost_for
commit-cost-at-most memory s count = go (eqb (length (touched_blocks memory s) + count) 0)
  where
    go : (t : Bool) → cond t 0 (stores_for (min (length (touched_blocks memory s) + count) (volume_words memory))) ≤ stores_for (volume_words memory)
    go true = omega arith
    go false = omega (arith, min-le_right (length (touched_blocks memory s) + count) (volume_words memory))
