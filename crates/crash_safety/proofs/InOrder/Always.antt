-- Memory and disk stay in order: an open puts them in order, and every work but a crash leaves them so.
use Prim.Native.Nat.{ℕ}
use mathlib.Core.Path.{◌≡◌, refl, sym, ap, ◌∙◌, subst}
use mathlib.Core.Logic.{◌⊎◌, inl, inr, ⊎_elim}
use mathlib.Core.Bool.{Bool, true, false, false≢true}
use mathlib.Core.Option.{Option, none}
use mathlib.Core.List.{List, [], ◌∷◌}
use Rattle.model_types.specs.declared.error.Error.{Error}
use Rattle.model_types.specs.declared.memory.Memory.{Memory}
use Rattle.model_types.specs.declared.memory.Pending.{Pending}
use Rattle.model_types.specs.Memory.{zero_memory}
use Rattle.model.specs.Rules.First.{unless_refused}
use Rattle.model.specs.Rules.Pending.{begun}
use Rattle.model.specs.Rules.Valid.{valid}
use Rattle.model.specs.Rules.Calls.Open.{open_error, opened, open_memory}
use Rattle.model.specs.Rules.Calls.Format.{format_disk}
use Rattle.model.specs.Rules.Outcome.{Call, outcome, open_call, crash_call}
use Rattle.model.specs.Rules.Work.{Work, open_work, crash_work, store_work, begin_work, change_work, worked, worked_disk}
use Rattle.crash_safety.specs.World.{World, begin, step, run, Without}
use Rattle.model.proofs.Laws.Disk.Parts.{opens-parts}
use Rattle.model.proofs.Laws.Memory.Valid.{parts-valid}
use Rattle.model.proofs.Laws.Memory.Opened.{opened-valid, opened-matches}
use Rattle.model.proofs.Laws.Works.Work.{by-begun, Made}
use Rattle.crash_safety.specs.InOrder.{Consistent, InUse, InOrder, AlwaysInOrder, NoCrash, InUseFromOpen}
use Rattle.crash_safety.proofs.Invariant.{Invariant}
use Rattle.crash_safety.proofs.Crash.{zero-invalid}
use Rattle.crash_safety.proofs.Keeps.{work-keeps, step_keeps, run-keeps, by-kept, begins-formatted}
use Rattle.crash_safety.proofs.Works.{told, after, by_call, by-works}
use Rattle.crash_safety.proofs.InOrder.Touching.{change-consistent}
use Rattle.crash_safety.proofs.InOrder.Commit.{commit-consistent}
use Rattle.crash_safety.proofs.InOrder.Store.{store-consistent}

-- an open puts memory and disk in order
opened-consistent : (disk : List ℕ) → open_error disk ≡ none → Consistent (opened disk) disk
opened-consistent disk e =
    record { is_valid = parts-valid (opened disk) (opened-valid disk e); size = (opens-parts disk e).size; matches = opened-matches disk e }

pub open-uses : (w : World) → Invariant w → InUse (step open_call w)
unfolding step outcome open_memory unless_refused
open-uses w i =
    subst (λ (e : Option Error). Consistent (unless_refused e (opened w.disk) zero_memory) w.disk) (sym i.opens)
    (opened-consistent w.disk i.opens)

-- a work is a crash, or the world is in use after it: all but an open and a crash ask for a valid memory, so it was in use before
work-uses : (w : World) → Invariant w → (valid w.memory ≡ true → InUse w) → (call : Call) (new : Work) → Made call new w.memory w.disk
    → (new ≡ crash_work) ⊎ InUse (after new w)
unfolding worked worked_disk told
work-uses w i used call open_work m = inr (opened-consistent w.disk m)
work-uses w i used call crash_work m = inl refl
work-uses w i used call store_work a =
    let related = i.related a.is_valid in
    inr (store-consistent w.memory w.disk related.slots related.sam (used a.is_valid) a)
work-uses w i used call (begin_work new) m =
    inr
    (by-begun (λ p. Consistent (begun w.memory p) w.disk) w.memory
    (λ s done due a e.
    let related = i.related a.ready.is_valid in
    subst (λ (after : Memory). Consistent after w.disk) e
    (commit-consistent w.memory w.disk s related.slots related.sam (used a.ready.is_valid) a))
    new m)
work-uses w i used call (change_work s change) (ready, a) =
    inr (change-consistent w.memory w.disk (i.related ready.is_valid).slots (used ready.is_valid) s change ready a)

pub stays-in-use : (w : World) → Invariant w → InUse w → (call : Call) (new : Work) → Made call new w.memory w.disk → (new ≡ crash_work → ⊥)
    → InUse (after new w)
stays-in-use w i c call new m no-crash = ⊎_elim (λ e. absurd (no-crash e)) (λ u. u) (work-uses w i (λ _. c) call new m)

-- every call but a crash leaves a world in use
pub step-uses : (call : Call) (w : World) → Invariant w → InUse w → (call ≡ crash_call) ⊎ InUse (step call w)
step-uses call w i c = (by_call (λ v. Invariant v × ((call ≡ crash_call) ⊎ InUse v)) call one w (i, inr c)).1
  where
    -- only a crash does a crash, since no open is refused
    crashes : (v : World) (new : Work) → Invariant v → Made call new v.memory v.disk → new ≡ crash_work → call ≡ crash_call
    crashes v new k m e = ⊎_elim (λ q. q) (λ n. absurd (n.1 k.opens)) (subst (λ (x : Work). Made call x v.memory v.disk) e m)

    one : (v : World) (new : Work) → Made call new v.memory v.disk → Invariant v × ((call ≡ crash_call) ⊎ InUse v)
        → Invariant (after new v) × ((call ≡ crash_call) ⊎ InUse (after new v))
    one v new m (k, uses) =
        (work-keeps v call new m k, ⊎_elim inl (λ u. ⊎_elim (λ e. inl (crashes v new k m e)) inr (work-uses v k (λ _. u) call new m)) uses)

pub run-uses : (calls : List Call) (w : World) → NoCrash calls → Invariant w → InUse w → InUse (run calls w)
unfolding run
run-uses [] w n i c = c
run-uses (call ∷ calls) w n i c =
    run-uses calls (step call w) n.1 (step_keeps call w i) (⊎_elim (λ e. absurd (n.0 e)) (λ u. u) (step-uses call w i c))

-- and so do calls that do no crash
pub uses-without : (test : Work → Pending → Bool) → ((new : Work) (pending : Pending) → test new pending ≡ false → new ≡ crash_work → ⊥)
    → (calls : List Call) (w : World) → Without test calls w → Invariant w → InUse w → InUse (run calls w)
uses-without test no-crash = by-kept InUse test (λ v i call new m f u. stays-in-use v i u call new m (no-crash new v.memory.pending f))

-- a valid memory isn't that of zeros
pub valid-uses : (w : World) → InOrder w → valid w.memory ≡ true → InUse w
valid-uses w o is_valid = ⊎_elim (λ e. absurd (false≢true (sym zero-invalid ∙ sym (ap valid e) ∙ is_valid))) (λ u. u) o

pub run-in-order : (calls : List Call) (w : World) → Invariant w → InOrder w → InOrder (run calls w)
unfolding worked
run-in-order calls w i o = (by-works (λ v. Invariant v × InOrder v) one calls w (i, o)).1
  where
    one : (v : World) (call : Call) (new : Work) → Made call new v.memory v.disk → Invariant v × InOrder v
        → Invariant (after new v) × InOrder (after new v)
    one v call new m (k, p) =
        (work-keeps v call new m k, ⊎_elim (λ e. inl (ap (λ (x : Work). worked x v.memory v.disk) e)) inr (work-uses v k (valid-uses v p) call new m))

-- ---- the theorem

pub always-in-order : AlwaysInOrder
always-in-order blocks some_blocks few disk size calls =
    run-in-order calls (begin (format_disk disk blocks)) (begins-formatted blocks some_blocks few disk size) (inl refl)

pub in-use-from-open : InUseFromOpen
in-use-from-open blocks some_blocks few disk size calls later n =
    let w : World = run calls (begin (format_disk disk blocks)) in
    let i : Invariant w = run-keeps calls (begin (format_disk disk blocks)) (begins-formatted blocks some_blocks few disk size) in
    run-uses later (step open_call w) n (step_keeps open_call w i) (open-uses w i)
