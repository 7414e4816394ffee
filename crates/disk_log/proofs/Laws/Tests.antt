-- Tests joined by "and", and lists compared part by part.
use Prim.Native.Nat.{ℕ, ◌≤◌, ◌<◌}
use native.Mathlib.Nat.{suc_inj, suc-ne-zero}
use mathlib.Core.Path.{◌≡◌, refl, sym, ap, ◌∙◌}
use mathlib.Core.Bool.{Bool, true, false, ◌&&◌, and_assoc}
use mathlib.Core.List.{List, [], ◌∷◌, ◌++◌}
use lib.ListN.{length}
use lib.Dec.{leb, ltb, eqb}
use borrow.Author.Tests.{leb-true, ltb-true, eqb-true, le-leb, lt-ltb, eq-eqb}
use Rattle.model.specs.Rules.Valid.{same_words}

pub and_left : {a : Bool} (b : Bool) → a ≡ true → (a && b) ≡ b
and_left b e = rw e

pub and_right : (a : Bool) {b : Bool} → b ≡ true → (a && b) ≡ a
and_right true e = e
and_right false e = refl

pub and_none : {a : Bool} (b : Bool) → a ≡ false → (a && b) ≡ false
and_none b e = rw e

-- two pairs of tests, joined the other way round
pub and-exchange : (a b c d : Bool) → ((a && b) && (c && d)) ≡ ((a && c) && (b && d))
and-exchange true true c d = refl
and-exchange true false true d = refl
and-exchange true false false d = refl
and-exchange false b c d = refl

-- two tests of one fact: each holds where the other does
one-fact : (s t : Bool) → (s ≡ true → t ≡ true) → (t ≡ true → s ≡ true) → s ≡ t
one-fact true t f g = sym (f refl)
one-fact false true f g = g refl
one-fact false false f g = refl

pub leb-same : (a b c d : ℕ) → (a ≤ b → c ≤ d) → (c ≤ d → a ≤ b) → leb a b ≡ leb c d
leb-same a b c d f g =
    one-fact (leb a b) (leb c d) (λ e. le-leb c d (f (leb-true a b e))) (λ e. le-leb a b (g (leb-true c d e)))

pub ltb-same : (a b c d : ℕ) → (a < b → c < d) → (c < d → a < b) → ltb a b ≡ ltb c d
ltb-same a b c d f g =
    one-fact (ltb a b) (ltb c d) (λ e. lt-ltb c d (f (ltb-true a b e))) (λ e. lt-ltb a b (g (ltb-true c d e)))

pub eqb_same : (a b c d : ℕ) → (a ≡ b → c ≡ d) → (c ≡ d → a ≡ b) → eqb a b ≡ eqb c d
eqb_same a b c d f g =
    one-fact (eqb a b) (eqb c d) (λ e. eq-eqb c d (f (eqb-true a b e))) (λ e. eq-eqb a b (g (eqb-true c d e)))

-- lists of words compared part by part
pub same-append : (a b c d : List ℕ) → length a ≡ length c → same_words (a ++ b) (c ++ d) ≡ (same_words a c && same_words b d)
unfolding same_words
same-append [] b [] d l = refl
same-append [] b (y ∷ c) d l = absurd (suc-ne-zero (length c) (sym l))
same-append (x ∷ a) b [] d l = absurd (suc-ne-zero (length a) l)
same-append (x ∷ a) b (y ∷ c) d l =
    ap (λ (t : Bool). eqb x y && t) (same-append a b c d (suc_inj l)) ∙ sym (and_assoc (eqb x y) (same_words a c) (same_words b d))
