-- The decimal digits of a number, the last one apart.
use Prim.Native.Nat.{ℕ, zero, suc, ◌+◌, ◌/◌, ◌%◌, ◌^◌, ◌≤◌, ◌<◌}
use mathlib.Core.Path.{◌≡◌, ap, ◌∙◌}
use mathlib.Core.Bool.{Bool, true, false, cond}
use mathlib.Core.List.{List, [], ◌∷◌, ◌++◌}
use native.Mathlib.Nat.{pow-suc, div-lt_iff_lt-mul}
use native.Mathlib.Omega.{arith}
use lib.ListN.{length, set, length-append}
use lib.Dec.{ltb, lit<, lit≤}
use borrow.Author.Tests.{lt-ltb, le-ltb}
use Rattle.model.specs.Rules.Line.{decimal_f, decimal}
use Rattle.bench_answer.specs.Put.{Put, max_decimal}
use Rattle.bench_answer.proofs.Laws.Put.{put_one, put_then}

-- as many digits as asked at most
decimal-short : (fuel n : ℕ) → length (decimal_f fuel n) ≤ fuel
unfolding decimal_f
decimal-short zero n = lit≤ tt
decimal-short (suc fuel) n = go (ltb n 10) (decimal-short fuel (n / 10))
  where
    go : (test : Bool) → length (decimal_f fuel (n / 10)) ≤ fuel
        → length (cond test ((48 + n) ∷ []) (decimal_f fuel (n / 10) ++ ((48 + n % 10) ∷ []))) ≤ suc fuel
    go true h = omega arith
    go false h = rw (length-append (decimal_f fuel (n / 10)) ((48 + n % 10) ∷ [])) (omega arith)

pub decimal-length : (n : ℕ) → length (decimal n) ≤ max_decimal
unfolding decimal
decimal-length n = decimal-short max_decimal n

-- a number below 10 ^ (fuel + 1) has no more digits for more fuel
more-fuel : (fuel n : ℕ) → n < 10 ^ suc fuel → decimal_f (suc fuel) n ≡ decimal_f (suc (suc fuel)) n
unfolding decimal_f
more-fuel zero n h = rw (lt-ltb n 10 h)
more-fuel (suc fuel) n h =
    ap (λ (front : List ℕ). cond (ltb n 10) ((48 + n) ∷ []) (front ++ ((48 + n % 10) ∷ [])))
    (more-fuel fuel (n / 10) ((div-lt_iff_lt-mul (lit< tt)).1 (rw (pow-suc 10 (suc fuel)) at h)))

more-digits : (fuel n : ℕ) → 10 ≤ n → decimal_f (suc fuel) n ≡ decimal_f fuel (n / 10) ++ ((48 + n % 10) ∷ [])
unfolding decimal_f
more-digits fuel n h = rw (le-ltb n 10 h)

-- a digit
decimal_digit : (n : ℕ) → n < 10 → decimal n ≡ (48 + n) ∷ []
unfolding decimal decimal_f
decimal_digit n h = rw (lt-ltb n 10 h)

-- more
decimal-digits : (n : ℕ) → 10 ≤ n → n < 2 ^ 32 → decimal n ≡ decimal (n / 10) ++ ((48 + n % 10) ∷ [])
unfolding decimal
decimal-digits n h fits =
    more-digits 9 n h ∙ ap (λ (front : List ℕ). front ++ ((48 + n % 10) ∷ [])) (more-fuel 8 (n / 10) (omega arith))

-- the room that the digits take
pub digit-length : (n : ℕ) → n < 10 → length (decimal n) ≡ 1
digit-length n h = ap length (decimal_digit n h)

pub digits-length : (n : ℕ) → 10 ≤ n → n < 2 ^ 32 → length (decimal n) ≡ length (decimal (n / 10)) + 1
digits-length n h fits = ap length (decimal-digits n h fits) ∙ length-append (decimal (n / 10)) ((48 + n % 10) ∷ [])

-- the digits put into a list
pub put-digit : (l : List ℕ) (at n : ℕ) → n < 10 → at < length l → Put l at (decimal n) (set l at (48 + n)) (at + 1)
put-digit l at n h room = rw (decimal_digit n h) (put_one l at (48 + n) room)

pub put-digits : {l l₁ : List ℕ} {at last : ℕ} (n : ℕ) → 10 ≤ n → n < 2 ^ 32 → at ≤ length l → last < length l₁
    → Put l at (decimal (n / 10)) l₁ last
    → Put l at (decimal n) (set l₁ last (48 + n % 10)) (last + 1)
put-digits {l} {l₁} {at} {last} n h fits inside room front =
    rw (decimal-digits n h fits) (put_then inside front (put_one l₁ last (48 + n % 10) room))

pub ruleset decimal_laws = (digit-length, digits-length, put-digit, put-digits)

pub ruleset room_laws = (decimal-length)
