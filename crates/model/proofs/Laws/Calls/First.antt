-- "Checked in number order": laws of the first cause that holds.
use mathlib.Core.Path.{◌≡◌, refl, sym, ap, ◌∙◌}
use mathlib.Core.Logic.{◌⊎◌, inl, inr}
use mathlib.Core.Bool.{Bool, true, false, not, ◌&&◌, false≢true}
use mathlib.Core.Option.{none, some}
use mathlib.Core.List.{List, [], ◌∷◌, ◌++◌}
use lib.Dec.{eqb}
use borrow.Author.Tests.{eq-eqb}
use Rattle.model.specs.Types.{Error}
use Rattle.model_types.specs.Errors.{code}
use Rattle.model.specs.Rules.First.{Cause, first, first_or, ◌⇒◌}

-- ---- one cause after the other

module _ (holds : Bool) (error : Error) (more : List Cause) where
  -- a cause that holds is the answer, whatever holds after it
  pub cause-holds : holds ≡ true → first (holds ⇒ error ∷ more) ≡ some error
  unfolding first first_or
  cause-holds e = rw e

  -- one that doesn't is passed over
  pub cause-passed : holds ≡ false → first (holds ⇒ error ∷ more) ≡ first more
  unfolding first first_or
  cause-passed e = rw e

  -- where the first is none, this cause doesn't hold, and none of the others
  pub none-holds : first (holds ⇒ error ∷ more) ≡ none → (holds ≡ false) × (first more ≡ none)
  unfolding first first_or
  none-holds e = go holds e
    where
      go : (t : Bool) → first_or t error (first more) ≡ none → (t ≡ false) × (first more ≡ none)
      go true q = (cc, cc)
      go false q = (refl, q)

-- with all tested, no cause holds
pub no-cause : first [] ≡ none
unfolding first
no-cause = refl

-- ---- all causes of a list

-- no cause of a list holds
abbrev pub NoneHold : List Cause → Type 0
NoneHold [] = Unit {0}
NoneHold (cause ∷ causes) = (cause.holds ≡ false) × NoneHold causes

-- where the first is none, none holds, and the other way round
pub first-none : (causes : List Cause) → first causes ≡ none → NoneHold causes
first-none [] p = tt
first-none (cause ∷ causes) p =
    let n = none-holds cause.holds cause.error causes p in
    (n.0, first-none causes n.1)

pub none_first : (causes : List Cause) → NoneHold causes → first causes ≡ none
none_first [] h = no-cause
none_first (cause ∷ causes) h = cause-passed cause.holds cause.error causes h.0 ∙ none_first causes h.1

-- the first cause that holds has this error: one of another error before it doesn't hold, and one of this error holds, or a later
-- one of it does
abbrev HoldsAt : Bool → Cause → Type 0 → Type 0
HoldsAt true cause later = (cause.holds ≡ true) ⊎ later
HoldsAt false cause later = (cause.holds ≡ false) × later

abbrev pub HoldsFirst : Error → List Cause → Type 0
HoldsFirst error [] = ⊥
HoldsFirst error (cause ∷ causes) = HoldsAt (eqb (code cause.error) (code error)) cause (HoldsFirst error causes)

-- where the first is an error, it is so of this one
pub first_some : (causes : List Cause) (error : Error) → first causes ≡ some error → HoldsFirst error causes
unfolding first first_or
first_some [] error p = absurd (false≢true cc)
first_some (cause ∷ causes) error p = go cause.holds refl (eqb (code cause.error) (code error)) refl (first_some causes error) p
  where
    go : (t : Bool) → cause.holds ≡ t → (u : Bool) → eqb (code cause.error) (code error) ≡ u
        → (first causes ≡ some error → HoldsFirst error causes)
        → first_or t cause.error (first causes) ≡ some error
        → HoldsAt u cause (HoldsFirst error causes)
    go true e true same later q = inl e
    go true e false other later q =
        let same : cause.error ≡ error = cc in
        absurd (false≢true (sym other ∙ eq-eqb (code cause.error) (code error) (ap code same)))
    go false e true same later q = inr (later q)
    go false e false other later q = (e, later q)

-- ---- a list that goes on

-- the cause that holds among the first ones is the whole list's
pub some-append : (xs ys : List Cause) (error : Error) → first xs ≡ some error → first (xs ++ ys) ≡ some error
unfolding first first_or
some-append [] ys error e = cc
some-append (x ∷ xs) ys error e = go x.holds (some-append xs ys error) e
  where
    go : (t : Bool) → (first xs ≡ some error → first (xs ++ ys) ≡ some error)
        → first_or t x.error (first xs) ≡ some error
        → first_or t x.error (first (xs ++ ys)) ≡ some error
    go true ih q = q
    go false ih q = ih q

-- and where none of them holds, the rest decides
pub none-append : (xs ys : List Cause) → first xs ≡ none → first (xs ++ ys) ≡ first ys
none-append [] ys e = refl
none-append (x ∷ xs) ys e =
    let n = none-holds x.holds x.error xs e in
    cause-passed x.holds x.error (xs ++ ys) n.0 ∙ none-append xs ys n.1

-- whether no cause of a list has this error
abbrev pub lacks : Error → List Cause → Bool
lacks error [] = true
lacks error (cause ∷ causes) = not (eqb (code cause.error) (code error)) && lacks error causes

-- an error that none of the first ones has is one of the rest
skip-lacking : (xs ys : List Cause) (error : Error) → lacks error xs ≡ true → HoldsFirst error (xs ++ ys) → HoldsFirst error ys
skip-lacking [] ys error e h = h
skip-lacking (x ∷ xs) ys error e h = go (eqb (code x.error) (code error)) e h (skip-lacking xs ys error)
  where
    go : (t : Bool) → (not t && lacks error xs) ≡ true
        → HoldsAt t x (HoldsFirst error (xs ++ ys))
        → (lacks error xs ≡ true → HoldsFirst error (xs ++ ys) → HoldsFirst error ys)
        → HoldsFirst error ys
    go true e h later = absurd (false≢true e)
    go false e h later = later e h.1

pub some_after : (xs ys : List Cause) (error : Error) → lacks error xs ≡ true → first (xs ++ ys) ≡ some error → HoldsFirst error ys
some_after xs ys error lacking p = skip-lacking xs ys error lacking (first_some (xs ++ ys) error p)
