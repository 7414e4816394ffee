-- Majority of three: that it is what the tables say, what it leaves and takes, and words of it.
use Prim.Native.Nat.{ℕ, ◌-◌, ◌^◌, ◌<◌}
use mathlib.Core.Path.{◌≡◌, refl, ap, ap₂, ◌∙◌}
use mathlib.Core.Bool.{Bool, true, false, not, xor, ◌&&◌, ◌||◌, false≢true}
use lib.Bits.{bit_and, bit_or, and_lt, or_lt}
use Rattle.bitmap.specs.Bits.{is_set}
use Rattle.bitmap.specs.Majority.{majority, commit_table, rollback_table}
use Rattle.bitmap.proofs.Laws.Word.{is_set-and, is_set-or, is_set-not}

-- ---- the tables

-- Table 3 is the majority of SAM, COM and TAM
pub commit_table-majority : (s c t : Bool) → commit_table s c t ≡ majority s c t
unfolding commit_table majority
commit_table-majority false false false = refl
commit_table-majority false false true = refl
commit_table-majority false true false = refl
commit_table-majority false true true = refl
commit_table-majority true false false = refl
commit_table-majority true false true = refl
commit_table-majority true true false = refl
commit_table-majority true true true = refl

-- Table 2 is the majority of COM, SAM and not TAM
pub rollback_table-majority : (s c t : Bool) → rollback_table s c t ≡ majority c s (not t)
unfolding rollback_table majority
rollback_table-majority false false false = refl
rollback_table-majority false false true = refl
rollback_table-majority false true false = refl
rollback_table-majority false true true = refl
rollback_table-majority true false false = refl
rollback_table-majority true false true = refl
rollback_table-majority true true false = refl
rollback_table-majority true true true = refl

-- commit leaves SAM where the slot has touched nothing: where TAM equals SAM
pub majority-untouched : (s c : Bool) → majority s c s ≡ s
unfolding majority
majority-untouched false false = refl
majority-untouched false true = refl
majority-untouched true false = refl
majority-untouched true true = refl

-- commit takes what the slot has touched: where COM equals TAM
pub majority-touched : (s t : Bool) → majority s t t ≡ t
unfolding majority
majority-touched false false = refl
majority-touched false true = refl
majority-touched true false = refl
majority-touched true true = refl

-- rollback leaves COM where the slot has touched nothing
pub rollback-untouched : (s c : Bool) → majority c s (not s) ≡ c
unfolding majority
rollback-untouched false false = refl
rollback-untouched false true = refl
rollback-untouched true false = refl
rollback-untouched true true = refl

-- rollback puts SAM back where the slot has touched: where TAM differs from it
pub rollback-touched : (s c t : Bool) → xor t s ≡ true → majority c s (not t) ≡ s
unfolding xor
rollback-touched false c false h = absurd (false≢true h)
rollback-touched false c true h = majority-touched c false
rollback-touched true c false h = majority-touched c true
rollback-touched true c true h = absurd (false≢true h)

-- ---- words

-- at least two of three, bit by bit
unfoldable pub majority_word : ℕ → ℕ → ℕ → ℕ
majority_word a b c = bit_or (bit_and a b) (bit_and c (bit_or a b))

pub is_set-majority : (a b c i : ℕ) → is_set (majority_word a b c) i ≡ majority (is_set a i) (is_set b i) (is_set c i)
unfolding majority_word majority
is_set-majority a b c i =
    is_set-or (bit_and a b) (bit_and c (bit_or a b)) i
    ∙ ap₂ (λ (x y : Bool). x || y) (is_set-and a b i) (is_set-and c (bit_or a b) i ∙ ap (λ (t : Bool). is_set c i && t) (is_set-or a b i))

-- of words of w bits it has w
pub majority_word-lt : (w a b c : ℕ) → a < 2 ^ w → b < 2 ^ w → c < 2 ^ w → majority_word a b c < 2 ^ w
unfolding majority_word
majority_word-lt w a b c ha hb hc =
    or_lt w (bit_and a b) (bit_and c (bit_or a b)) (and_lt w a b ha hb) (and_lt w c (bit_or a b) hc (or_lt w a b ha hb))

-- the rollback of a word, with TAM turned
pub is_set-rollback : (w c s t i : ℕ) → t < 2 ^ w → i < w
    → is_set (majority_word c s (2 ^ w - 1 - t)) i ≡ majority (is_set c i) (is_set s i) (not (is_set t i))
is_set-rollback w c s t i h l =
    is_set-majority c s (2 ^ w - 1 - t) i ∙ ap (λ (x : Bool). majority (is_set c i) (is_set s i) x) (is_set-not w t i h l)
