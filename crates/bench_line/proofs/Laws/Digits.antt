-- The digits at the front of some bytes: their number, and what follows them.
use native.Mathlib.Numerals.{add-one, unary_clauses}
use native.Mathlib.Nat.{lt_of_lt_of_le, pow-succ', pow-le-pow_right}
use lib.Dec.{lit<}
use lib.ListN.{length-take, length-drop}
use lib.Seq.{get_or-take, take_all}
use Rattle.std.proofs.Common.{ℕ, suc, ◌≡◌, refl, sym, ap, ◌∙◌, Bool, true, false, List, [], ◌∷◌, ◌+◌, ◌-◌, ◌*◌, ◌^◌, ◌<◌, ◌≤◌, length, take, drop, arith, get_or}
use Rattle.std.specs.List.{fold, prefix_len}
use Rattle.std.proofs.lemmas.List.Sums.{prefix_len_passes}
use Rattle.bench_line.specs.Number.{NumberRead}
use Rattle.model.specs.Rules.Line.{Digits, is_digit, digits, digits_in_form}

-- a digit more
abbrev pub with_digit : ℕ → ℕ → ℕ
with_digit value byte = 10 * value + (byte - 48)

-- how many digits stand at the front
abbrev digits_len : List ℕ → ℕ
digits_len = prefix_len is_digit

digits_from : (bytes : List ℕ) (v n : ℕ) → digits v n bytes
    ≡ record { value = fold with_digit v (take (digits_len bytes) bytes); count = n + digits_len bytes; rest = drop (digits_len bytes) bytes }
unfolding digits
digits_from [] v n = simp unary_clauses
digits_from (b ∷ bytes) v n = go (is_digit b) refl (digits_from bytes (with_digit v b) (n + 1))
  where
    go : (digit : Bool) → is_digit b ≡ digit
        → digits (with_digit v b) (n + 1) bytes ≡ record { value = fold with_digit (with_digit v b) (take (digits_len bytes) bytes); count = n + 1 + digits_len bytes; rest = drop (digits_len bytes) bytes }
        → digits v n (b ∷ bytes) ≡ record { value = fold with_digit v (take (digits_len (b ∷ bytes)) (b ∷ bytes)); count = n + digits_len (b ∷ bytes); rest = drop (digits_len (b ∷ bytes)) (b ∷ bytes) }
    go true e more =
        let k = digits_len bytes in
        let next : 1 + k ≡ suc k = omega arith in
        let count : n + 1 + k ≡ n + suc k = omega arith in
        rw (e, next) (more ∙ ap (λ (c : ℕ). record { value = fold with_digit (with_digit v b) (take k bytes); count = c; rest = drop k bytes }) count)
    go false e more = rw e (simp unary_clauses)

-- each of them is a digit
pub digit_at : (bytes : List ℕ) (len k : ℕ) → len ≡ digits_len bytes → k < length (take len bytes) → (48 ≤ get_or (take len bytes) k 0) × (get_or (take len bytes) k 0 ≤ 57)
unfolding is_digit
digit_at bytes len k e h =
    let inside : k < digits_len bytes = omega (arith, length-take len bytes, e, h) in
    grind (arith, prefix_len_passes is_digit bytes k 0 inside, get_or-take len bytes k 0 (omega (arith, e, inside)))

-- a number and one digit more, of five at most
module _ (bytes : List ℕ) (len i value : ℕ) (is : len ≡ digits_len bytes) (few : len ≤ 5) (inside : i < length (take len bytes)) (small : value < 10 ^ i) where
  pub four-digits : value < 10000
  four-digits = lt_of_lt_of_le small (pow-le-pow_right {n = 10} (lit< tt) {i = i} {j = 4} (omega (arith, length-take len bytes, inside, few)))

  pub digit-more : with_digit value (get_or (take len bytes) i 0) < 10 ^ (i + 1)
  digit-more = rw (add-one i, pow-succ' 10 i) (omega (arith, small, digit_at bytes len i is inside))

-- "numbers of 1 to 5 digits"
pub too_few : (bytes : List ℕ) → digits_len bytes ≡ 0 → digits_in_form (digits 0 0 bytes) ≡ false
unfolding digits_in_form
too_few bytes h = grind (arith, digits_from bytes 0 0)

pub too_many : (bytes : List ℕ) → 5 < digits_len bytes → digits_in_form (digits 0 0 bytes) ≡ false
unfolding digits_in_form
too_many bytes h = grind (arith, digits_from bytes 0 0)

-- a number in form, and what follows it
pub number_read : (bytes : List ℕ) (len i value : ℕ) → len ≡ digits_len bytes → (len ≡ 0 → ⊥) → len ≤ 5
    → length (take len bytes) ≤ i
    → value ≡ fold with_digit 0 (take i (take len bytes))
    → NumberRead bytes value (take (length bytes - len) (drop len bytes))
unfolding digits_in_form
number_read bytes len i value is some few end e =
    let all = digits_from bytes 0 0 in
    let digits_are = take_all i (take len bytes) end ∙ ap (λ (n : ℕ). take n bytes) is in
    let rest_is = take_all (length bytes - len) (drop len bytes) (omega (arith, length-drop len bytes)) ∙ ap (λ (n : ℕ). drop n bytes) is in
    record {
      in_form = grind (arith, all, is, some, few);
      value_is = ap (λ (d : Digits). d.value) all ∙ sym (e ∙ ap (fold with_digit 0) digits_are);
      rest_is = ap (λ (d : Digits). d.rest) all ∙ sym rest_is;
    }

pub ruleset number_steps = (digit_at, too_few, too_many)
