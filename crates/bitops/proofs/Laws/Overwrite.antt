-- A list overwritten from the front by another, one element after the other.
use Prim.Native.Nat.{ℕ, suc, ◌+◌, ◌≤◌, ◌<◌}
use native.Mathlib.Numerals.{add-one}
use native.Mathlib.Omega.{arith}
use mathlib.Core.Path.{◌≡◌, sym, ap, ap₂, ◌∙◌}
use mathlib.Core.List.{List, ◌∷◌, ◌++◌, append-nil}
use lib.ListN.{length, get_or, set, take, drop, drop_of_length-le}
use lib.Seq.{drop-cons, take-suc, take_all, set_at, get_or_at, length-take-le, append_snoc}

-- the first k elements are new, the others old
abbrev pub Overwritten : ℕ → List ℕ → List ℕ → List ℕ → Type 0
Overwritten k new old list = list ≡ take k new ++ drop k old

module _ (k : ℕ) (new old list : List ℕ) where
  module _ (hn : k < length new) (ho : k < length old) (so : Overwritten k new old list) where
    -- the new ones, the old one that is next, and those behind it
    parts : list ≡ take k new ++ (get_or old k 0 ∷ drop (suc k) old)
    parts = so ∙ ap (λ (l : List ℕ). take k new ++ l) (drop-cons old k 0 ho)

    -- the new ones are k
    front : length (take k new) ≡ k
    front = length-take-le k new (omega arith)

    -- the element at k is still the old one
    pub overwritten-at : get_or list k 0 ≡ get_or old k 0
    overwritten-at = ap (λ (l : List ℕ). get_or l k 0) parts ∙ get_or_at (take k new) (get_or old k 0) (drop (suc k) old) 0 k front

    -- with the new one stored there, one more is new
    pub overwritten-step : Overwritten (k + 1) new old (set list k (get_or new k 0))
    overwritten-step =
        rw (add-one k)
        (ap (λ (l : List ℕ). set l k (get_or new k 0)) parts
        ∙ set_at (take k new) (get_or old k 0) (drop (suc k) old) (get_or new k 0) k front
        ∙ sym (append_snoc (take k new) (get_or new k 0) (drop (suc k) old))
        ∙ ap (λ (l : List ℕ). l ++ drop (suc k) old) (sym (take-suc new k 0 hn)))

  -- in the end all are new
  pub overwritten-all : length new ≤ k → length old ≤ k → Overwritten k new old list → list ≡ new
  overwritten-all hn ho so = so ∙ ap₂ ◌++◌ (take_all k new hn) (drop_of_length-le old ho) ∙ append-nil new
