-- What the comparison of a disk with a commit checks, word by word: the words of the bitmap and of the log.
use Prim.Native.Nat.{ℕ, suc, ◌+◌, ◌-◌, ◌≤◌, ◌<◌}
use mathlib.Core.Path.{◌≡◌, refl, sym, ap, ◌∙◌}
use mathlib.Core.Bool.{Bool, true, false, cond, ◌&&◌, and_assoc}
use mathlib.Core.List.{List, [], ◌∷◌}
use native.Mathlib.Numerals.{add-one}
use native.Mathlib.Nat.{sub-zero}
use native.Mathlib.Omega.{arith}
use lib.ListN.{length, get_or, take, drop}
use lib.Seq.{drop-cons}
use lib.Dec.{eqb}
use borrow.Author.Tests.{eqb-true}
use Rattle.model.specs.Rules.Sizes.{bitmap_at}
use Rattle.model.specs.Rules.Stores.{Store, ◌≔◌, changes_from}
use Rattle.model.specs.Rules.Valid.{same_words}
use Rattle.disk_log.proofs.Laws.Tests.{and-exchange}
use Rattle.disk_match.specs.Matching.{entry_written, checkpointed_word, kept_match, word_matches, changed_match}
use Rattle.disk_match.proofs.Laws.Checkpointed.{checkpoint, checkpointed-same, checkpointed-from}
use Rattle.disk_match.proofs.Laws.LogWords.{log_matches}

-- a part of the disk's bitmap, by its first word
pub part-first : (disk : List ℕ) (k n : ℕ) → bitmap_at + k < length disk
    → take (suc n) (drop (bitmap_at + k) disk) ≡ get_or disk (bitmap_at + k) 0 ∷ take n (drop (bitmap_at + suc k) disk)
part-first disk k n h =
    ap (take (suc n)) (drop-cons disk (bitmap_at + k) 0 h)
    ∙ (let e : bitmap_at + suc k ≡ suc (bitmap_at + k) = omega arith in rw e)

-- the tests of the words that stay and of those that change are those of the bitmap and of the log
pub words-match : (disk : List ℕ) (done checkpointed k i : ℕ) (olds news : List ℕ) → length olds ≡ length news → bitmap_at + k + length olds ≤ length disk
    → (kept_match disk k olds news && changed_match disk done checkpointed k i olds news)
    ≡ (same_words (take (length olds) (drop (bitmap_at + k) disk)) (checkpoint (checkpointed - i) olds news) && log_matches disk done i (changes_from k olds news))
unfolding kept_match changed_match checkpoint log_matches changes_from same_words word_matches
words-match disk done checkpointed k i [] news l h = refl
words-match disk done checkpointed k i (old ∷ olds) [] l h = absurd (omega arith)
words-match disk done checkpointed k i (old ∷ olds) (new ∷ news) l h =
    rw (part-first disk k (length olds) (omega arith))
    (go (eqb old new) refl (λ j. words-match disk done checkpointed (suc k) j olds news (omega arith) (omega arith)))
  where
    x : ℕ
    x = get_or disk (bitmap_at + k) 0

    kept : Bool
    kept = kept_match disk (suc k) olds news

    changed : ℕ → Bool
    changed j = changed_match disk done checkpointed (suc k) j olds news

    same : ℕ → Bool
    same n = same_words (take (length olds) (drop (bitmap_at + suc k) disk)) (checkpoint n olds news)

    later : List Store
    later = changes_from (suc k) olds news

    go : (t : Bool) → eqb old new ≡ t → ((j : ℕ) → (kept && changed j) ≡ (same (checkpointed - j) && log_matches disk done j later))
        → ((cond t (eqb x old) true && kept) && cond t (changed i) ((eqb x (checkpointed_word checkpointed i old new) && entry_written disk done i k new) && changed (i + 1)))
        ≡ ((eqb x (checkpointed_word (checkpointed - i) 0 old new) && same (checkpointed - i - cond t 0 1)) && log_matches disk done i (cond t later (k ≔ new ∷ later)))
    go true e ih =
        rw (checkpointed-same (checkpointed - i) old new (eqb-true old new e), sub-zero (checkpointed - i))
        (and_assoc (eqb x old) kept (changed i)
        ∙ ap (λ (t : Bool). eqb x old && t) (ih i)
        ∙ sym (and_assoc (eqb x old) (same (checkpointed - i)) (log_matches disk done i later)))
    go false e ih =
        let word : Bool = eqb x (checkpointed_word (checkpointed - i) 0 old new) in
        let less : checkpointed - (i + 1) ≡ checkpointed - i - 1 = omega arith in
        rw (checkpointed-from checkpointed i old new, ← less)
        (and-exchange true kept (word && entry_written disk done i k new) (changed (i + 1))
        ∙ ap (λ (t : Bool). (word && entry_written disk done i k new) && t) (ih (i + 1))
        ∙ rw (add-one i) (and-exchange word (entry_written disk done i k new) (same (checkpointed - suc i)) (log_matches disk done (suc i) later)))
