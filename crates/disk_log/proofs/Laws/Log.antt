-- The entries of a disk's log, one by one.
use Prim.Native.Nat.{ℕ, zero, suc, ◌+◌, ◌-◌, ◌*◌, ◌/◌, ◌^◌, ◌≤◌, ◌<◌}
use mathlib.Core.Path.{◌≡◌, refl, sym, ap, ◌∙◌}
use mathlib.Core.Bool.{Bool, true, false, ◌&&◌}
use mathlib.Core.List.{List, [], ◌∷◌, map}
use native.Mathlib.Numerals.{add-one}
use native.Mathlib.Omega.{arith}
use lib.Dec.{leb, ltb}
use lib.Pow.{pow_mono}
use borrow.Author.Tests.{lt-ltb, le-leb, lt-leb}
use lib.ListN.{length, get_or, take, drop, length-take, length-drop, drop_of_length-le}
use lib.Seq.{drop-cons}
use Rattle.std.specs.Simd.{first_chunks}
use Rattle.bitmap.specs.Sizes.{word_bits, words_for}
use Rattle.model.specs.Rules.Sizes.{log_at}
use Rattle.model.specs.Rules.Stores.{Store, ◌≔◌}
use Rattle.disk_log.specs.Given.{entry_of}
use Rattle.disk_log.proofs.Laws.Tests.{and_left, and_none}
use Rattle.model.specs.Rules.Disk.{disk_blocks, log_length, entries_in, log_entries, entries_valid, word_one_valid, log_valid}

-- ---- entries

-- the pairs of a log's words are its entries
pub entries-are : (n : ℕ) (words : List ℕ) → 2 * n ≤ length words
    → map entry_of (first_chunks 2 n (take (2 * n) words)) ≡ entries_in n words
unfolding entries_in
entries-are zero words h = refl
entries-are (suc n) [] h = absurd (omega arith)
entries-are (suc n) (x ∷ []) h = absurd (omega arith)
entries-are (suc n) (x ∷ y ∷ words) h =
    let e : 2 * suc n ≡ suc (suc (2 * n)) = omega arith in
    rw e (ap (λ (es : List Store). x ≔ y ∷ es) (entries-are n words (omega arith)))

-- and so in a disk
pub log-pairs : (disk : List ℕ) (n m : ℕ) → m ≡ 2 * n → log_at + 2 * n ≤ length disk
    → map entry_of (first_chunks 2 (length (take m (drop log_at disk)) / 2) (take m (drop log_at disk))) ≡ entries_in n (drop log_at disk)
log-pairs disk n m e h =
    let half : length (take (2 * n) (drop log_at disk)) / 2 ≡ n = simp (length-take, length-drop) (omega arith) in
    rw (e, half) (entries-are n (drop log_at disk) (simp length-drop (omega arith)))

-- ---- words with no bits from one on

-- 32 bits are all that a word has
pub all-bits : (word bits : ℕ) → word < 2 ^ word_bits → word_bits ≤ bits → ltb word (2 ^ bits) ≡ true
all-bits word bits h l = lt-ltb word (2 ^ bits) (omega (arith, pow_mono l))

-- ---- the log's test, entry by entry

-- a log is not valid if it has more entries than the volume's bitmap words
pub log-too-long : (disk : List ℕ) → words_for (disk_blocks disk) < log_length disk → log_valid disk ≡ false
unfolding log_valid word_one_valid
log-too-long disk h = rw (lt-leb (log_length disk) (words_for (disk_blocks disk)) h)

-- else it is if its entries are
pub log-entries : (disk : List ℕ) → log_length disk ≤ words_for (disk_blocks disk)
    → log_valid disk ≡ entries_valid (disk_blocks disk) 0 (log_entries disk)
unfolding log_valid word_one_valid
log-entries disk h = rw (le-leb (log_length disk) (words_for (disk_blocks disk)) h)

-- whether an entry may be the next of a log
abbrev pub may_follow : ℕ → ℕ → ℕ → ℕ → Bool
may_follow blocks low number contents =
    leb low number && ltb number (words_for blocks) && ltb contents (2 ^ (blocks - 32 * number))

module _ (blocks low : ℕ) (es : List (List ℕ)) (i : ℕ) {follows : Bool} (h : i < length es)
    (t : follows ≡ may_follow blocks low (get_or (get_or es i []) 0 0) (get_or (get_or es i []) 1 0)) where
  -- the entries from one on are not valid if it may not follow
  pub entries-stop : follows ≡ false → entries_valid blocks low (map entry_of (drop i es)) ≡ false
  unfolding entries_valid
  entries-stop f = rw (drop-cons es i [] h) (and_none _ (sym t ∙ f))

  -- and are if it may and those behind it are
  pub entries-go : follows ≡ true
      → entries_valid blocks low (map entry_of (drop i es)) ≡ entries_valid blocks (get_or (get_or es i []) 0 0 + 1) (map entry_of (drop (i + 1) es))
  unfolding entries_valid
  entries-go f = rw (drop-cons es i [] h, add-one i, add-one (get_or (get_or es i []) 0 0)) (and_left _ (sym t ∙ f))

-- behind the last entry there is none
pub entries-end : (blocks low : ℕ) (es : List (List ℕ)) (i : ℕ) → length es ≤ i → entries_valid blocks low (map entry_of (drop i es)) ≡ true
unfolding entries_valid
entries-end blocks low es i h = rw (drop_of_length-le es {i = i} h)
