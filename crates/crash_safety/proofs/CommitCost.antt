-- A commit cost holds, whatever calls come in between: each work touches for a slot no more than it is told to.
use Prim.Native.Nat.{ℕ, ◌+◌, ◌≤◌, ◌<◌}
use native.Mathlib.Omega.{arith}
use mathlib.Core.Path.{◌≡◌, refl, sym, ap, ◌∙◌, subst}
use mathlib.Core.Logic.{inl}
use mathlib.Core.Bool.{true, false, true≢false}
use mathlib.Core.List.{List, [], ◌∷◌}
use lib.ListN.{length}
use Rattle.bitmap.specs.Sizes.{slot_count, words_for}
use Rattle.model_types.specs.declared.memory.Memory.{Memory}
use Rattle.model_types.specs.declared.memory.Pending.{Pending}
use Rattle.model_types.specs.declared.memory.Pending.TheVariants.{Nothing, Commit}
use Rattle.model_types.specs.Memory.{slot_at}
use Rattle.model.specs.Rules.Commit.{commit_due, committed}
use Rattle.model.specs.Rules.Pending.{one_more_done, finished, begun}
use Rattle.model.specs.Rules.Valid.{pending_valid}
use Rattle.model.specs.Rules.Calls.Format.{format_disk}
use Rattle.model.specs.Rules.Calls.Commit.{commit_error, committing, commit_answer}
use Rattle.model.specs.Rules.Touched.{touched_blocks}
use Rattle.model.specs.Rules.Calls.CommitCost.{commit_cost_error, cost_for, commit_cost, commit_cost_answer}
use Rattle.model.proofs.Laws.Memory.Valid.{ValidParts, valid-parts}
use Rattle.model.proofs.Laws.Works.ChangeMade.{change-leaves}
use Rattle.model.proofs.Laws.Works.Progress.{by-finish, by-store, by-begin}
use Rattle.model.proofs.Laws.Works.Pending.{commit-parts, precommitted-active, precommitted-below}
use Rattle.model.proofs.Laws.Calls.Accepted.{Ready, CommitAccepted, commit-accepted, CommitCostAccepted, commit-cost-accepted}
use Rattle.model.specs.Rules.Outcome.{Call}
use Rattle.model.specs.Rules.Work.{Work, open_work, crash_work, store_work, begin_work, change_work, worked}
use Rattle.model.proofs.Laws.Works.Work.{EachWork, each-fails, Fails, by-begun, Made, SomeMade, calls-made}
use Rattle.crash_safety.specs.World.{World, run, begin, Without}
use Rattle.crash_safety.specs.InOrder.{InUse}
use Rattle.crash_safety.specs.CommitCost.{touches_for, touches_of, touches_in, ends_use, CommitCostKeptInUse, CommitCostHolds}
use Rattle.crash_safety.proofs.Invariant.{Invariant}
use Rattle.crash_safety.proofs.Works.{after, after_all, works_of, run-worked}
use Rattle.crash_safety.proofs.Keeps.{work-keeps, run-keeps, begins-formatted}
use Rattle.crash_safety.proofs.InOrder.Always.{stays-in-use, valid-uses, run-in-order}
use Rattle.model.proofs.Laws.Touched.TouchedBlocks.{changed-touched, changed-words}
use Rattle.model.proofs.Laws.Calls.Answered.{told-answer}
use Rattle.model.proofs.Laws.Promises.CommitCost.{due-within, commit-cost-kept}
use Rattle.model.proofs.Laws.Touched.TouchedBy.{active-touched, Touches, pending-touches, committed-touches}

-- ---- each work, for slot s

module _ (memory : Memory) (s : ℕ) (eight : length memory.slots ≡ slot_count) (parts : ValidParts memory) where
  there : (t : ℕ) → Ready memory t → t < length memory.slots
  there t ready = omega (arith, eight, ready.below)

  abbrev None : Memory → Type 0
  None new = Touches memory new s 0

  -- a pending commit ends
  commit-touches : (t done due : ℕ) → memory.pending ≡ Commit t done due → None (committed memory t)
  commit-touches t done due e =
      let valid-pending = subst (λ (p : Pending). pending_valid memory p ≡ true) e parts.pending_fits in
      let precommitted = (commit-parts memory t done due valid-pending).precommitted in
      committed-touches memory s t parts (omega (arith, eight, precommitted-below memory t eight precommitted))
      (precommitted-active (slot_at memory t).state precommitted)

  -- or ends at once
  commit-ends : (t done due : ℕ) → CommitAccepted memory t → committing memory t ≡ begun memory (Commit t done due) → None (finished memory (Commit t done due))
  unfolding finished
  commit-ends t done due a e = committed-touches memory s t parts (there t a.ready) a.active

  work-touches : (call : Call) (disk : List ℕ) (new : Work) → Made call new memory disk → Fails ends_use new memory
      → Touches memory (worked new memory disk) s (touches_for s new)
  unfolding ends_use worked touches_for
  work-touches call disk open_work m f = absurd (true≢false f)
  work-touches call disk crash_work m f = absurd (true≢false f)
  work-touches call disk store_work m f =
      by-store None memory memory.pending
      (by-finish None memory (record { few = omega arith; volume = refl }) (pending-touches memory s Nothing) memory.pending commit-touches)
      (pending-touches memory s (one_more_done memory.pending))
  work-touches call disk (begin_work new) m f =
      by-begin None memory new (by-begun (λ p. None (finished memory p)) memory commit-ends new m) (pending-touches memory s new)
  work-touches call disk (change_work t change) m f = (change-leaves memory parts t m.0 (there t m.0) change m.1).touches s

-- ---- a list of works

-- the world after them is in use, and all of them together touch no more
pub record Ran (s : ℕ) (w after : World) (more : ℕ) : Type 0 where
  pub invariant : Invariant after
  pub in_use : InUse after
  pub touches : Touches w.memory after.memory s more

all-touch : (s : ℕ) (all : List Work) (w : World) → EachWork (λ new m d. SomeMade new m d × Fails ends_use new m) all w.memory w.disk
    → Invariant w → InUse w → Ran s w (after_all all w) (touches_of s all)
unfolding after_all touches_of ends_use
all-touch s [] w each i c = record { invariant = i; in_use = c; touches = record { few = omega arith; volume = refl } }
all-touch s (new ∷ all) w (((call, made), fails), later) i c =
    let first = work-touches w.memory s (i.related c.is_valid).slots (valid-parts w.memory c.is_valid) call w.disk new made fails in
    let rest = all-touch s all (after new w) later (work-keeps w call new made i) (stays-in-use w i c call new made (no-crash new w.memory.pending fails)) in
    record {
      invariant = rest.invariant;
      in_use = rest.in_use;
      touches = record { few = omega (arith, first.few, rest.touches.few); volume = rest.touches.volume ∙ first.volume };
    }
  where
    no-crash : (new : Work) (pending : Pending) → ends_use new pending ≡ false → new ≡ crash_work → ⊥
    no-crash x pending f e = true≢false (sym (ap (λ (y : Work). ends_use y pending) e) ∙ f)

run-touches : (s : ℕ) (calls : List Call) (w : World) → Without ends_use calls w → Invariant w → InUse w → Ran s w (run calls w) (touches_in s calls w)
run-touches s calls w without i c =
    subst (λ (v : World). Ran s w v (touches_in s calls w)) (sym (run-worked calls w))
    (all-touch s (works_of calls w) w
    (each-fails SomeMade ends_use (works_of calls w) w.memory w.disk (calls-made calls w.memory w.disk) without) i c)

-- ---- the theorems

-- of a world in use
module _ (s count : ℕ) (w : World) (i : Invariant w) (c : InUse w) (a : CommitCostAccepted w.memory s count) where
  abbrev asked : ℕ
  asked = length (touched_blocks w.memory s) + count

  later-within : (calls : List Call) → Without ends_use calls w → touches_in s calls w ≤ count
      → CommitAccepted (run calls w).memory s → commit_due (run calls w).memory s ≤ commit_cost w.memory s count
  unfolding commit_cost
  later-within calls same within b =
      let ran = run-touches s calls w same i c in
      let after : Memory = (run calls w).memory in
      let parts-after = valid-parts after ran.in_use.is_valid in
      let words-after = changed-words after s parts-after b.active in
      let sam-after = (ran.invariant.related ran.in_use.is_valid).sam in
      subst (λ (m : ℕ). commit_due after s ≤ cost_for (words_for m) asked) ran.touches.volume
      (due-within after s asked
      (omega (
        arith,
        changed-touched after s parts-after b.active sam-after,
        active-touched after s b.active,
        ran.touches.few,
        active-touched w.memory s a.active,
        within,
      ))
      words-after)

pub commit-cost-kept-in-use : CommitCostKeptInUse
unfolding commit_cost_answer
commit-cost-kept-in-use blocks some_blocks few disk size calls s count cost answered =
    let first : World = begin (format_disk disk blocks) in
    let memory : Memory = (run calls first).memory in
    let told = told-answer (commit_cost_error memory s count) (commit_cost memory s count) cost answered in
    let is_valid = (commit-cost-accepted memory s count told.0).ready.is_valid in
    commit-cost-kept memory is_valid
    ((run-keeps calls first (begins-formatted blocks some_blocks few disk size)).related is_valid).sam
    s count cost answered

pub commit-cost-holds : CommitCostHolds
unfolding commit_cost_answer commit_answer
commit-cost-holds blocks some_blocks few disk size calls s count cost answered later same within stores commits =
    let first : World = begin (format_disk disk blocks) in
    let w : World = run calls first in
    let begins = begins-formatted blocks some_blocks few disk size in
    let cost-told = told-answer (commit_cost_error w.memory s count) (commit_cost w.memory s count) cost answered in
    let commit-told = told-answer (commit_error (run later w).memory s) (commit_due (run later w).memory s) stores commits in
    let a = commit-cost-accepted w.memory s count cost-told.0 in
    let used = valid-uses w (run-in-order calls first begins (inl refl)) a.ready.is_valid in
    rw (← cost-told.1, ← commit-told.1)
    (later-within s count w (run-keeps calls first begins) used a later same within (commit-accepted (run later w).memory s commit-told.0))
