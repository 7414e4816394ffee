-- A recovery in hand: the log's entries compared with SAM one by one, and all that cause 6 asks.
use Prim.Native.Nat.{ℕ, ◌+◌, ◌-◌, ◌≤◌, ◌<◌}
use mathlib.Core.Path.{◌≡◌}
use mathlib.Core.Bool.{true, ◌&&◌}
use mathlib.Core.List.{List, [], map}
use native.Mathlib.Numerals.{add-one}
use native.Mathlib.Omega.{arith}
use lib.ListN.{length, get_or, drop, drop_of_length-le}
use lib.Seq.{drop-cons}
use lib.Dec.{eqb}
use borrow.Author.Tests.{eqb-true}
use Rattle.bitmap.specs.Bits.{no_bits_from}
use Rattle.model.specs.Rules.Stores.{writes}
use Rattle.model.specs.Rules.Valid.{same_words}
use Rattle.model.specs.Rules.Disk.{disk_blocks, disk_bitmap, log_length, log_entries, log_valid, entries_agree, recovery_matches}
use Rattle.model.proofs.Laws.Disk.Writes.{and_first, and_second}
use Rattle.disk_log.specs.Given.{entry_of}
use Rattle.disk_log.proofs.Laws.Tests.{eqb_same}
use Rattle.disk_match.specs.Matching.{head_is, log_agrees}

-- ---- the entries compared with a bitmap

module _ (words : List ℕ) (es : List (List ℕ)) (i : ℕ) where
  -- the entries from one on, by it and those behind it
  pub agree-step : i < length es
      → entries_agree words (map entry_of (drop i es))
      ≡ (eqb (get_or words (get_or (get_or es i []) 0 0) 0) (get_or (get_or es i []) 1 0) && entries_agree words (map entry_of (drop (i + 1) es)))
  unfolding entries_agree
  agree-step h = rw (drop-cons es i [] h, add-one i)

  -- behind the last entry there is none
  pub agree-end : length es ≤ i → entries_agree words (map entry_of (drop i es)) ≡ true
  unfolding entries_agree
  agree-end h = rw (drop_of_length-le es {i = i} h)

-- ---- a log that agrees

-- what words 0 and 1 are
pub head-blocks : (disk : List ℕ) (blocks entries : ℕ) → head_is disk blocks entries ≡ true → disk_blocks disk ≡ blocks
head-blocks disk blocks entries e = eqb-true (disk_blocks disk) blocks (and_first _ (eqb (log_length disk) entries) e)

pub head-length : (disk : List ℕ) (blocks entries : ℕ) → head_is disk blocks entries ≡ true → log_length disk ≡ entries
head-length disk blocks entries e = eqb-true (log_length disk) entries (and_second (eqb (disk_blocks disk) blocks) _ e)

-- what a log that agrees has
pub record Agrees (disk : List ℕ) (blocks entries : ℕ) : Type 0 where
  pub blocks_is : disk_blocks disk ≡ blocks
  pub length_is : log_length disk ≡ entries
  pub log : log_valid disk ≡ true

pub log-agrees : (disk sam : List ℕ) (blocks entries : ℕ) → log_agrees disk sam blocks entries ≡ true → Agrees disk blocks entries
unfolding log_agrees
log-agrees disk sam blocks entries e =
    let head-log = and_first _ (entries_agree sam (log_entries disk)) e in
    let head = and_first _ (log_valid disk) head-log in
    record {
      blocks_is = head-blocks disk blocks entries head;
      length_is = head-length disk blocks entries head;
      log = and_second (head_is disk blocks entries) (log_valid disk) head-log;
    }

-- ---- all that cause 6 asks

-- the tests of a recovery in hand, in the order in which they are made
pub recovery-tests : (blocks : ℕ) (sam disk : List ℕ) (done due : ℕ) → 1 ≤ due
    → recovery_matches blocks sam disk done due
    ≡ (log_agrees disk sam blocks (due - 1)
    && no_bits_from blocks (disk_bitmap disk)
    && same_words (writes (drop done (log_entries disk)) (disk_bitmap disk)) sam)
unfolding recovery_matches log_agrees
recovery-tests blocks sam disk done due h =
    let one_less : eqb (log_length disk + 1) due ≡ eqb (log_length disk) (due - 1) =
    eqb_same (log_length disk + 1) due (log_length disk) (due - 1) (λ e. omega arith) (λ e. omega arith) in
    rw one_less
