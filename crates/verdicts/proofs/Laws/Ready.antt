-- What a call knows once its slot's causes let it pass, and what it answers and leaves by its first error.
use Prim.Native.Nat.{ℕ, ◌<◌}
use native.Mathlib.Omega.{arith}
use mathlib.Core.Path.{◌≡◌, sym, ap, ◌∙◌}
use mathlib.Core.Option.{Option, none, some}
use lib.ListN.{get_or}
use Rattle.std.specs.Prelude.{Result, Ok, Err}
use Rattle.std.specs.Result.{IsErrAnd}
use Rattle.std.proofs.lemmas.List.{get_or_default}
use Rattle.std.proofs.lemmas.Result.{err_from_is_err_and}
use Rattle.bitmap.specs.Sizes.{slot_count}
use Rattle.model_types.specs.declared.error.Error.{Error}
use Rattle.model_types.specs.declared.memory.Slot.{Slot}
use Rattle.model_types.specs.declared.memory.Memory.{Memory}
use Rattle.model_types.specs.Answers.{answer}
use Rattle.model_types.specs.Memory.{slot_at, idle_slot}
use Rattle.model.specs.Rules.First.{unless_refused}
use Rattle.model.proofs.Laws.Calls.Answered.{told-answer, told-refusal}
use Rattle.validity.specs.Checked.{counted_for}
use Rattle.model_types.specs.Shape.{HasShape}
use Rattle.verdicts.specs.declared.ready.Ready.{Ready}
use Rattle.verdicts.specs.Ready.{ready_of}

-- ---- what the call knows

pub record Passed (memory : Memory) (s : ℕ) (found : Option Error) (ready : Ready) : Type 0 where
  pub none-found : found ≡ none
  pub at-is : ready.at ≡ s
  pub counted-is : ready.counted ≡ counted_for memory

pub pass : {memory : Memory} {s : ℕ} {found : Option Error} {ready : Ready} → Ok ready ≡ answer found (ready_of memory s) → Passed memory s found ready
pass {memory = memory} {s = s} {found = found} {ready = ready} e =
    let told = told-answer found (ready_of memory s) ready (sym e) in
    record {
      none-found = told.0;
      at-is = sym (ap (λ (x : Ready). x.at) told.1);
      counted-is = sym (ap (λ (x : Ready). x.counted) told.1);
    }

-- it may hand on what it was told
pub hands-on : {memory : Memory} {s : ℕ} {found : Option Error} {ready : Ready} → Passed memory s found ready → ready ≡ ready_of memory s
hands-on {memory = memory} {s = s} {ready = ready} told = rw (told.at-is, told.counted-is)

-- the slot that it reads
pub slot-is : {at : ℕ} {memory : Memory} {s : ℕ} (d : Slot) → HasShape memory → at ≡ s → at < slot_count → get_or memory.slots at d ≡ slot_at memory s
slot-is {memory = memory} {s = s} d shape e below = rw e (get_or_default memory.slots s d idle_slot (omega (arith, shape.slots, e, below)))

-- ---- what it answers and leaves

-- an error that `?` hands on
pub handed-on : {T : Type 0} {r : Result T Error} {error : Error} → IsErrAnd r (λ e. e ≡ error) → r ≡ Err error
handed-on {r = r} h = let out = err_from_is_err_and r h in out.1 ∙ ap Err out.2

module _ {A : Type 0} where
  -- refused by an earlier cause, with whatever it would have given
  pub refusal : {B : Type 0} (found : Option Error) (given : B) (other : A) (error : Error)
      → Err error ≡ answer found given → Err error ≡ answer found other
  unfolding answer
  refusal found given other error e = sym (ap (λ (x : Option Error). answer x other) (told-refusal found given error (sym e)))

  -- refused by its own
  pub refused-by : {found : Option Error} {error : Error} (given : A) → found ≡ some error → Err error ≡ answer found given
  unfolding answer
  refused-by given e = rw e

  -- accepted
  pub gives : {found : Option Error} (given : A) → found ≡ none → Ok given ≡ answer found given
  unfolding answer
  gives given e = rw e

module _ {ℓ} {A : Type ℓ} where
  -- accepted, it leaves the new value
  pub leaves-new : {found : Option Error} (new old : A) → found ≡ none → new ≡ unless_refused found new old
  unfolding unless_refused
  leaves-new new old e = rw e

  -- refused, it leaves the old
  pub leaves-all : {found : Option Error} {error : Error} (new old : A) → found ≡ some error → old ≡ unless_refused found new old
  unfolding unless_refused
  leaves-all new old e = rw e

  pub leaves-old : {B : Type 0} (found : Option Error) (given : B) (error : Error) (new old : A) → Err error ≡ answer found given → old ≡ unless_refused found new old
  unfolding unless_refused
  leaves-old found given error new old e = rw (told-refusal found given error (sym e))
