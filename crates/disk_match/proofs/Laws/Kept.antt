-- The words of a bitmap that stay, over three lists at once: one word more, and the end.
use Prim.Native.Nat.{ℕ, suc, ◌+◌, ◌≤◌}
use mathlib.Core.Path.{◌≡◌, refl, sym, ap}
use mathlib.Core.Bool.{Bool, true, false, cond, ◌&&◌, and_assoc}
use mathlib.Core.List.{List, [], ◌∷◌}
use native.Mathlib.Nat.{suc-ne-zero}
use native.Mathlib.Omega.{arith}
use lib.ListN.{length, get_or, take, drop}
use lib.Bits.{bit_or, bit_xor}
use lib.Dec.{eqb}
use Rattle.model.specs.Rules.Sizes.{bitmap_at}
use Rattle.bitops.proofs.Laws.Compare.{eqb-or, eqb-xor}
use Rattle.disk_match.specs.Matching.{kept_difference, kept_match}
use Rattle.disk_match.proofs.Laws.Matching.{part-first}

-- whether the words that stay are as they were
unfoldable pub words_kept : List ℕ → List ℕ → List ℕ → Bool
words_kept [] olds news = true
words_kept (word ∷ words) [] news = true
words_kept (word ∷ words) (old ∷ olds) [] = true
words_kept (word ∷ words) (old ∷ olds) (new ∷ news) = cond (eqb old new) (eqb word old) true && words_kept words olds news

-- those of a disk
pub kept-words : (disk : List ℕ) (k : ℕ) (olds news : List ℕ) → length olds ≡ length news → bitmap_at + k + length olds ≤ length disk
    → kept_match disk k olds news ≡ words_kept (take (length olds) (drop (bitmap_at + k) disk)) olds news
unfolding kept_match words_kept
kept-words disk k [] news l h = refl
kept-words disk k (old ∷ olds) [] l h = absurd (omega arith)
kept-words disk k (old ∷ olds) (new ∷ news) l h =
    rw (part-first disk k (length olds) (omega arith))
    (ap (λ (t : Bool). cond (eqb old new) (eqb (get_or disk (bitmap_at + k) 0) old) true && t)
    (kept-words disk (suc k) olds news (omega arith) (omega arith)))

-- a word that stays and doesn't differ is as it was
kept-none : (word old new : ℕ) → eqb (kept_difference word old new) 0 ≡ cond (eqb old new) (eqb word old) true
kept-none word old new = go (eqb old new)
  where
    go : (t : Bool) → eqb (cond t (bit_xor word old) 0) 0 ≡ cond t (eqb word old) true
    go true = eqb-xor word old
    go false = refl

-- the words are as they were if the first is, and those behind it
pub kept_step : (differences word old new : ℕ) {words olds news more-words more-olds more-news : List ℕ} {more : ℕ}
    → words ≡ word ∷ more-words → olds ≡ old ∷ more-olds → news ≡ new ∷ more-news
    → more ≡ kept_difference word old new
    → (eqb differences 0 && words_kept words olds news) ≡ (eqb (bit_or differences more) 0 && words_kept more-words more-olds more-news)
unfolding words_kept
kept_step differences word old new {more = more} w o n e =
    rw (w, o, n, eqb-or differences more, e, kept-none word old new) (sym (and_assoc (eqb differences 0) _ _))

-- with none left in one of the lists there is nothing to ask
pub no-words : (words olds news : List ℕ) → length words ≡ 0 → words_kept words olds news ≡ true
unfolding words_kept
no-words [] olds news e = refl
no-words (word ∷ words) olds news e = absurd (suc-ne-zero (length words) e)

pub no-olds : (words olds news : List ℕ) → length olds ≡ 0 → words_kept words olds news ≡ true
unfolding words_kept
no-olds [] olds news e = refl
no-olds (word ∷ words) [] news e = refl
no-olds (word ∷ words) (old ∷ olds) news e = absurd (suc-ne-zero (length olds) e)

pub no-news : (words olds news : List ℕ) → length news ≡ 0 → words_kept words olds news ≡ true
unfolding words_kept
no-news [] olds news e = refl
no-news (word ∷ words) [] news e = refl
no-news (word ∷ words) (old ∷ olds) [] e = refl
no-news (word ∷ words) (old ∷ olds) (new ∷ news) e = absurd (suc-ne-zero (length news) e)
