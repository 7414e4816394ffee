-- What an answer tells: that the call isn't refused, and what is given; or by which error it is refused.
use mathlib.Core.Path.{◌≡◌, refl}
use mathlib.Core.Option.{Option, none, some}
use Rattle.model.specs.Types.{Error, Ok, Err, ⊤}
use Rattle.model_types.specs.Answers.{answer}

module _ {A : Type 0} where
  pub told-answer : (error : Option Error) (given told : A) → answer error given ≡ Ok told → (error ≡ none) × (given ≡ told)
  unfolding answer
  told-answer none given told e = (refl, cc)
  told-answer (some error) given told e = (cc, cc)

  pub told-refusal : (error : Option Error) (given : A) (by : Error) → answer error given ≡ Err by → error ≡ some by
  unfolding answer
  told-refusal none given by e = cc
  told-refusal (some error) given by e = cc

-- of a call that gives nothing
pub told-done : (error : Option Error) → answer {A = ⊤} error tt ≡ Ok tt → error ≡ none
told-done error e = (told-answer error tt tt e).0
