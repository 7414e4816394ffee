-- A commit that is crashed after any number of its stores: before the commit point the disk stands for the old bitmap, and
-- from it on for the new one. So for every journal whose commit point tells the log's length and whose closing stores leave
-- bitmap and log alone; a commit's is one.
use Prim.Native.Nat.{ℕ, suc, ◌+◌, ◌-◌, ◌*◌, ◌≤◌, ◌<◌}
use mathlib.Core.Path.{◌≡◌, refl, sym, ap, ◌∙◌}
use mathlib.Core.Bool.{true}
use mathlib.Core.Option.{none}
use mathlib.Core.List.{List, ◌∷◌, ◌++◌, map}
use native.Mathlib.Omega.{arith}
use native.Mathlib.Decide.{dec_le}
use lib.ListN.{length, set, take, drop, length-map}
use lib.Seq.{take-append-le, take-append-add, take_all}
use Rattle.bitmap.specs.Sizes.{max_blocks, bitmap_words}
use Rattle.bitmap.specs.Bits.{no_bits_from}
use Rattle.model.specs.Rules.Sizes.{length_at, log_at, log_words, tail_words}
use Rattle.model_types.specs.Pending.{stores_for}
use Rattle.model.specs.Rules.Stores.{Store, ◌≔◌, writes, after, changes, log_stores, on_disk, checkpoint_with, journal_with, commit_point, closing_stores, commit_stores}
use Rattle.model.specs.Rules.Disk.{length_in, disk_of, entries_in, entries_valid, word_one_valid, durable}
use Rattle.model.specs.Rules.Calls.Open.{open_error}
use Rattle.model.proofs.Laws.Disk.Writes.{writes-append, length-writes, writes-take-again, writes-twice}
use Rattle.model.proofs.Laws.Disk.Places.{Places, places-take}
use Rattle.model.proofs.Laws.Disk.StoreLists.{length-log_stores, take-checkpoint, writes-log, writes-log-all}
use Rattle.model.proofs.Laws.Disk.Entries.{entries-logged, writes-no_bits, writes-take-no_bits}
use Rattle.model.proofs.Laws.Commit.Changes.{changes-places, changes-length}
use Rattle.model.proofs.Laws.Disk.Parts.{none_told, disk_of-tail, disk_of-durable, disk_of-quiet, disk_of-opens, quiet-opens, writes-on_disk}
use Rattle.model.proofs.Laws.Disk.Closing.{Closing, closing-take, Closed, closed, closed-durable, closed-opens}

-- what a commit starts from: the old bitmap, the words from the log on, and the entries that it writes
pub record CommitFrom (sam tail : List ℕ) (es : List Store) : Type 0 where
  pub sam_length : length sam ≡ bitmap_words
  pub tail_length : length tail ≡ tail_words
  pub places : Places bitmap_words es
  pub few : length es ≤ bitmap_words

-- the changed words of a bitmap
pub changes-from : (sam new tail : List ℕ) → length sam ≡ bitmap_words → length tail ≡ tail_words → CommitFrom sam tail (changes sam new)
changes-from sam new tail s l =
    record {
      sam_length = s;
      tail_length = l;
      places = rw s at (changes-places sam new);
      few = omega (arith, changes-length sam new);
    }

-- the disk after k stores of the journal
abbrev pub journal_disk : ℕ → ℕ → List ℕ → List ℕ → List Store → List Store → ℕ → List ℕ
journal_disk blocks point sam tail closing es k = after k (journal_with point closing es) (disk_of blocks 0 sam tail)

-- the words from the log on when the log is written
abbrev pub logged : List ℕ → List Store → List ℕ
logged tail es = writes (log_stores 0 es) tail

module _ (blocks point : ℕ) (sam tail : List ℕ) (closing es : List Store) (from : CommitFrom sam tail es) where
  front : length (blocks ∷ 0 ∷ sam) ≡ log_at
  front = omega (arith, from.sam_length)

  -- the disk by its parts, before the commit point
  pub journal-before : (k : ℕ) → k ≤ 2 * length es → journal_disk blocks point sam tail closing es k ≡ disk_of blocks 0 sam (writes (take k (log_stores 0 es)) tail)
  unfolding journal_with
  journal-before k h =
      ap
      (λ (s : List Store). writes s (disk_of blocks 0 sam tail))
      (take-append-le k (log_stores log_at es) (length_at ≔ point ∷ checkpoint_with closing es) (omega (arith, length-log_stores log_at es)))
      ∙ writes-log (blocks ∷ 0 ∷ sam) log_at k es tail front

  -- the log and the commit point
  at-point : (s : List Store)
      → writes (log_stores log_at es ++ (length_at ≔ point ∷ s)) (disk_of blocks 0 sam tail) ≡ writes s (disk_of blocks point sam (logged tail es))
  unfolding writes
  at-point s =
      writes-append (log_stores log_at es) (length_at ≔ point ∷ s) (disk_of blocks 0 sam tail)
      ∙ ap (λ (w : List ℕ). writes s (set w length_at point)) (writes-log-all (blocks ∷ 0 ∷ sam) log_at es tail front)

  -- n stores after the commit point
  past-point : (n : ℕ)
      → journal_disk blocks point sam tail closing es (length (log_stores log_at es) + suc n)
      ≡ writes (take n (checkpoint_with closing es)) (disk_of blocks point sam (logged tail es))
  unfolding journal_with
  past-point n =
      ap (λ (s : List Store). writes s (disk_of blocks 0 sam tail)) (take-append-add (log_stores log_at es) (length_at ≔ point ∷ checkpoint_with closing es) (suc n))
      ∙ at-point (take n (checkpoint_with closing es))

  -- the disk by its parts, from the commit point on
  pub journal-after : (k : ℕ) → 2 * length es < k → k ≤ 3 * length es + 1
      → journal_disk blocks point sam tail closing es k ≡ disk_of blocks point (writes (take (k - (2 * length es + 1)) es) sam) (logged tail es)
  journal-after k h g =
      let n : ℕ = k - (2 * length es + 1) in
      let e : k ≡ length (log_stores log_at es) + suc n = omega (arith, length-log_stores log_at es) in
      ap (journal_disk blocks point sam tail closing es) e
      ∙ past-point n
      ∙ ap (λ (s : List Store). writes s (disk_of blocks point sam (logged tail es))) (take-checkpoint closing n es (omega arith))
      ∙ writes-on_disk blocks point sam (logged tail es) from.sam_length (take n es) (places-take bitmap_words n es from.places)

  -- the disk by its parts, while it is closed
  pub journal-closing : (k : ℕ) → 3 * length es + 1 ≤ k
      → journal_disk blocks point sam tail closing es k ≡ writes (take (k - (3 * length es + 1)) closing) (disk_of blocks point (writes es sam) (logged tail es))
  unfolding checkpoint_with
  journal-closing k h =
      let n : ℕ = k - (3 * length es + 1) in
      let e : k ≡ length (log_stores log_at es) + suc (length (map on_disk es) + n) = omega (arith, length-log_stores log_at es, length-map es on_disk) in
      ap (journal_disk blocks point sam tail closing es) e
      ∙ past-point (length (map on_disk es) + n)
      ∙ ap (λ (s : List Store). writes s (disk_of blocks point sam (logged tail es))) (take-append-add (map on_disk es) closing n)
      ∙ writes-append (map on_disk es) (take n closing) (disk_of blocks point sam (logged tail es))
      ∙ ap (writes (take n closing)) (writes-on_disk blocks point sam (logged tail es) from.sam_length es from.places)

  -- ---- what it stands for

  pub durable-before : (k : ℕ) → k ≤ 2 * length es → durable (journal_disk blocks point sam tail closing es k) ≡ sam
  durable-before k h =
      ap durable (journal-before k h) ∙ disk_of-quiet blocks 0 sam (writes (take k (log_stores 0 es)) tail) from.sam_length none_told

  written-length : (s : List Store) → length (writes s sam) ≡ bitmap_words
  written-length s = length-writes s sam ∙ from.sam_length

  logged-length : length (logged tail es) ≡ tail_words
  logged-length = length-writes (log_stores 0 es) tail ∙ from.tail_length

  module _ (tells : length_in point ≡ length es) (c : Closing closing) where
    logged-entries : entries_in (length_in point) (logged tail es) ≡ es
    logged-entries = ap (λ (n : ℕ). entries_in n (logged tail es)) tells ∙ entries-logged es tail (omega (arith, from.tail_length, from.few))

    -- the closing stores done so far
    closed-by : (k : ℕ) → 3 * length es + 1 ≤ k → Closed blocks point (writes es sam) (logged tail es) (journal_disk blocks point sam tail closing es k)
    closed-by k h =
        let n : ℕ = k - (3 * length es + 1) in
        rw (journal-closing k h)
        (closed blocks (writes es sam) (written-length es) point (logged tail es) (take n closing) (closing-take n closing c))

    fits-log : 2 * length_in point ≤ log_words
    fits-log = omega (arith, tells, from.few)

    pub durable-after : (k : ℕ) → 2 * length es < k → durable (journal_disk blocks point sam tail closing es k) ≡ writes es sam
    durable-after k h = go (dec_le (3 * length es + 1) k)
      where
        go : Dec (3 * length es + 1 ≤ k) → durable (journal_disk blocks point sam tail closing es k) ≡ writes es sam
        go (yes g) =
            closed-durable blocks (writes es sam) (written-length es) point (logged tail es) fits-log
            (journal_disk blocks point sam tail closing es k)
            (closed-by k g)
            (ap (λ (s : List Store). writes s (writes es sam)) logged-entries ∙ writes-twice es sam)
        go (no n) =
            let some : List Store = take (k - (2 * length es + 1)) es in
            ap durable (journal-after k h (omega arith))
            ∙ disk_of-durable blocks point (writes some sam) (logged tail es) (written-length some)
            ∙ ap (λ (s : List Store). writes s (writes some sam)) logged-entries
            ∙ writes-take-again (k - (2 * length es + 1)) es sam

    -- ---- wherever it is crashed, the disk opens

    pub journal-opens : (k : ℕ)
        → 1 ≤ blocks
        → blocks ≤ max_blocks
        → no_bits_from blocks sam ≡ true
        → entries_valid blocks 0 es ≡ true
        → word_one_valid blocks point ≡ true
        → open_error (journal_disk blocks point sam tail closing es k) ≡ none
    journal-opens k some_blocks few_blocks no_bits valid word_one_is = go (dec_le k (2 * length es)) (dec_le (3 * length es + 1) k)
      where
        still-valid : entries_valid blocks 0 (entries_in (length_in point) (logged tail es)) ≡ true
        still-valid = ap (entries_valid blocks 0) logged-entries ∙ valid

        go : Dec (k ≤ 2 * length es) → Dec (3 * length es + 1 ≤ k) → open_error (journal_disk blocks point sam tail closing es k) ≡ none
        go (yes h) d =
            ap open_error (journal-before k h)
            ∙ quiet-opens blocks sam (writes (take k (log_stores 0 es)) tail) from.sam_length
            (length-writes (take k (log_stores 0 es)) tail ∙ from.tail_length) some_blocks few_blocks no_bits
        go (no h) (yes g) =
            closed-opens blocks (writes es sam) (written-length es) point (logged tail es) fits-log
            (journal_disk blocks point sam tail closing es k)
            (closed-by k g)
            logged-length some_blocks few_blocks (writes-no_bits blocks es sam no_bits valid) word_one_is still-valid
        go (no h) (no g) =
            let some : List Store = take (k - (2 * length es + 1)) es in
            ap open_error (journal-after k (omega arith) (omega arith))
            ∙ disk_of-opens blocks point (writes some sam) (logged tail es) (written-length some) logged-length some_blocks few_blocks
            (writes-take-no_bits blocks (k - (2 * length es + 1)) es sam no_bits valid) word_one_is still-valid

-- ---- a commit

-- the disk after k stores of the commit
abbrev pub commit_disk : ℕ → List ℕ → List ℕ → List Store → ℕ → List ℕ
commit_disk blocks sam tail es k = after k (commit_stores es) (disk_of blocks 0 sam tail)

module _ (blocks : ℕ) (sam tail : List ℕ) (es : List Store) (from : CommitFrom sam tail es) where
  -- as a journal's
  pub commit-journal : (k : ℕ) → commit_disk blocks sam tail es k ≡ journal_disk blocks (commit_point es) sam tail closing_stores es k
  unfolding commit_stores
  commit-journal k = refl

  pub commit-before : (k : ℕ) → k ≤ 2 * length es → commit_disk blocks sam tail es k ≡ disk_of blocks 0 sam (writes (take k (log_stores 0 es)) tail)
  commit-before k h = commit-journal k ∙ journal-before blocks (commit_point es) sam tail closing_stores es from k h

  pub commit-after : (k : ℕ) → 2 * length es < k → k < stores_for (length es)
      → commit_disk blocks sam tail es k ≡ disk_of blocks (commit_point es) (writes (take (k - (2 * length es + 1)) es) sam) (logged tail es)
  commit-after k h g = commit-journal k ∙ journal-after blocks (commit_point es) sam tail closing_stores es from k h (omega arith)

  -- at the end word 1 is 0
  pub commit-end : (k : ℕ) → stores_for (length es) ≤ k → commit_disk blocks sam tail es k ≡ disk_of blocks 0 (writes es sam) (logged tail es)
  unfolding writes
  commit-end k h =
      commit-journal k
      ∙ journal-closing blocks (commit_point es) sam tail closing_stores es from k (omega arith)
      ∙ ap
      (λ (s : List Store). writes s (disk_of blocks (commit_point es) (writes es sam) (logged tail es)))
      (take_all (k - (3 * length es + 1)) closing_stores (omega arith))

-- the disk's own words from the log on serve as well as those that it started from
pub commit-own-log : (blocks : ℕ) (sam tail : List ℕ) (es : List Store)
    → CommitFrom sam tail es → (k : ℕ) → commit_disk blocks sam (drop log_at (commit_disk blocks sam tail es k)) es k ≡ commit_disk blocks sam tail es k
commit-own-log blocks sam tail es from k = go (dec_le k (2 * length es)) (dec_le (stores_for (length es)) k)
  where
    disk : List ℕ
    disk = commit_disk blocks sam tail es k

    again : (own : List ℕ) → length own ≡ tail_words → CommitFrom sam own es
    again own l = record { sam_length = from.sam_length; tail_length = l; places = from.places; few = from.few }

    own-log : (p : ℕ) (words own : List ℕ)
        → disk ≡ disk_of blocks p words own → length words ≡ bitmap_words → commit_disk blocks sam own es k ≡ disk_of blocks p words own
        → commit_disk blocks sam (drop log_at disk) es k ≡ disk
    own-log p words own e l f =
        ap (λ (w : List ℕ). commit_disk blocks sam w es k) (ap (drop log_at) e ∙ disk_of-tail blocks p words own l) ∙ f ∙ sym e

    written : (s : List Store) → length (writes s tail) ≡ tail_words
    written s = length-writes s tail ∙ from.tail_length

    go : Dec (k ≤ 2 * length es) → Dec (stores_for (length es) ≤ k) → commit_disk blocks sam (drop log_at disk) es k ≡ disk
    go (yes h) d =
        let some : List Store = take k (log_stores 0 es) in
        own-log
        0
        sam
        (writes some tail)
        (commit-before blocks sam tail es from k h)
        from.sam_length
        (commit-before blocks sam (writes some tail) es (again (writes some tail) (written some)) k h
        ∙ ap (disk_of blocks 0 sam) (writes-twice some tail))
    go (no h) (yes g) =
        own-log
        0
        (writes es sam)
        (logged tail es)
        (commit-end blocks sam tail es from k g)
        (length-writes es sam ∙ from.sam_length)
        (commit-end blocks sam (logged tail es) es (again (logged tail es) (written (log_stores 0 es))) k g
        ∙ ap (disk_of blocks 0 (writes es sam)) (writes-twice (log_stores 0 es) tail))
    go (no h) (no g) =
        let some : List Store = take (k - (2 * length es + 1)) es in
        own-log
        (length es)
        (writes some sam)
        (logged tail es)
        (commit-after blocks sam tail es from k (omega arith) (omega arith))
        (length-writes some sam ∙ from.sam_length)
        (commit-after blocks sam (logged tail es) es (again (logged tail es) (written (log_stores 0 es))) k (omega arith) (omega arith)
        ∙ ap (disk_of blocks (length es) (writes some sam)) (writes-twice (log_stores 0 es) tail))
