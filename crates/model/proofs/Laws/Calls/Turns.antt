-- An answer by causes tested in turn, as code tests them: the first that holds is the refusal, and behind the last the call gives what
-- it gives.
use mathlib.Core.Path.{◌≡◌, refl, sym, ap, ◌∙◌}
use mathlib.Core.Bool.{Bool, true, false}
use mathlib.Core.Option.{Option, none, some}
use mathlib.Core.List.{List, [], ◌∷◌, ◌++◌}
use Rattle.model.specs.Types.{Error, Answer, Ok, Err}
use Rattle.model_types.specs.Answers.{answer}
use Rattle.model.specs.Rules.First.{Cause, first, first_or, ◌⇒◌}
use Rattle.model.proofs.Laws.Calls.First.{cause-holds, cause-passed, no-cause}
use Rattle.model.proofs.Laws.Calls.Answered.{told-answer, told-refusal}

-- a list that goes on: an error of its first part is its error, and behind none the rest decides
pub some-before : (xs ys : List Cause) (error : Error) → first xs ≡ some error → first (xs ++ ys) ≡ some error
unfolding first first_or
some-before [] ys error e = cc
some-before (x ∷ xs) ys error e = go x.holds e (some-before xs ys error)
  where
    go : (t : Bool) → first_or t x.error (first xs) ≡ some error → (first xs ≡ some error → first (xs ++ ys) ≡ some error)
        → first_or t x.error (first (xs ++ ys)) ≡ some error
    go true e later = e
    go false e later = later e

pub none-before : (xs ys : List Cause) → first xs ≡ none → first (xs ++ ys) ≡ first ys
unfolding first first_or
none-before [] ys e = refl
none-before (x ∷ xs) ys e = go x.holds e (none-before xs ys)
  where
    go : (t : Bool) → first_or t x.error (first xs) ≡ none → (first xs ≡ none → first (xs ++ ys) ≡ first ys)
        → first_or t x.error (first (xs ++ ys)) ≡ first ys
    go true e later = cc
    go false e later = later e

module _ {A : Type 0} (given : A) where
  by-error : Option Error → Answer A
  by-error error = answer error given

  -- a cause that holds
  pub held : {t : Bool} (error : Error) (later : List Cause) → t ≡ true → Err error ≡ answer (first (t ⇒ error ∷ later)) given
  unfolding answer by-error
  held error later e = sym (ap by-error (cause-holds _ error later e))

  -- one that doesn't
  pub passed : {t : Bool} {r : Answer A} (error : Error) (later : List Cause) → t ≡ false → r ≡ answer (first later) given
      → r ≡ answer (first (t ⇒ error ∷ later)) given
  unfolding by-error
  passed error later e f = f ∙ sym (ap by-error (cause-passed _ error later e))

  -- behind the last
  pub ended : Ok given ≡ answer (first []) given
  unfolding answer by-error
  ended = sym (ap by-error no-cause)

  -- behind other causes, of an answer that gave something else
  module _ {B : Type 0} (other : B) (xs ys : List Cause) where
    pub refused-before : (error : Error) → answer (first xs) other ≡ Err error → Err error ≡ answer (first (xs ++ ys)) given
    unfolding answer by-error
    refused-before error e = sym (ap by-error (some-before xs ys error (told-refusal _ other error e)))

    pub passed-before : {r : Answer A} (told : B) → answer (first xs) other ≡ Ok told → r ≡ answer (first ys) given → r ≡ answer (first (xs ++ ys)) given
    unfolding by-error
    passed-before told e f = f ∙ sym (ap by-error (none-before xs ys (told-answer _ other told e).0))
