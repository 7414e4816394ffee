-- Lists of writes by their places: all below a number, and all further on by one.
use Prim.Native.Nat.{ℕ, zero, suc, ◌+◌, ◌≤◌, ◌<◌}
use mathlib.Core.Path.{◌≡◌, refl, sym, ap, ◌∙◌}
use mathlib.Core.List.{List, [], ◌∷◌, ◌++◌, map}
use native.Mathlib.Nat.{zero-add, suc-add}
use native.Mathlib.Omega.{arith}
use lib.ListN.{length, set, take, drop, length-set}
use lib.Seq.{set-append_left}
use Rattle.model.specs.Rules.Stores.{Store, ◌≔◌, writes}

-- every entry's place is below n
abbrev pub Places : ℕ → List Store → Type 0
Places n [] = Unit {0}
Places n (e ∷ es) = (e.place < n) × Places n es

pub places-more : (m n : ℕ) (es : List Store) → m ≤ n → Places m es → Places n es
places-more m n [] le p = tt
places-more m n (e ∷ es) le p = (omega arith, places-more m n es le p.1)

pub places-take : (n k : ℕ) (es : List Store) → Places n es → Places n (take k es)
places-take n zero es p = tt
places-take n (suc k) [] p = tt
places-take n (suc k) (e ∷ es) p = (p.0, places-take n k es p.1)

pub places-drop : (n k : ℕ) (es : List Store) → Places n es → Places n (drop k es)
places-drop n zero es p = p
places-drop n (suc k) [] p = tt
places-drop n (suc k) (e ∷ es) p = places-drop n k es p.1

-- a list of writes n places further on
abbrev pub shift : ℕ → Store → Store
shift n e = (n + e.place) ≔ e.value

pub set-append-add : (front words : List ℕ) (i v : ℕ) → set (front ++ words) (length front + i) v ≡ front ++ set words i v
set-append-add [] words i v = ap (λ (n : ℕ). set words n v) (zero-add i)
set-append-add (x ∷ front) words i v =
    ap (λ (n : ℕ). set (x ∷ (front ++ words)) n v) (suc-add (length front) i)
    ∙ ap {B = List ℕ} (λ r. x ∷ r) (set-append-add front words i v)

pub writes-shift : (front : List ℕ) (n : ℕ) (s : List Store) (words : List ℕ)
    → length front ≡ n → writes (map (shift n) s) (front ++ words) ≡ front ++ writes s words
unfolding writes
writes-shift front n [] words f = refl
writes-shift front n (e ∷ s) words f =
    ap
    (writes (map (shift n) s))
    (ap (λ (m : ℕ). set (front ++ words) (m + e.place) e.value) (sym f) ∙ set-append-add front words e.place e.value)
    ∙ writes-shift front n s (set words e.place e.value) f

-- writes to places of the first words leave those behind them alone
pub writes-append-left : (n : ℕ) (es : List Store) (words behind : List ℕ)
    → length words ≡ n → Places n es → writes es (words ++ behind) ≡ writes es words ++ behind
unfolding writes
writes-append-left n [] words behind l p = refl
writes-append-left n (e ∷ es) words behind l p =
    ap (writes es) (set-append_left words behind e.place e.value (omega arith))
    ∙ writes-append-left n es (set words e.place e.value) behind (length-set words e.place e.value ∙ l) p.1
