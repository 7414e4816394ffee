-- The entries of a disk's log, each for a word of the bitmap.
use Prim.Native.Nat.{ℕ, zero, suc, ◌+◌, ◌-◌, ◌≤◌, ◌<◌}
use mathlib.Core.Path.{◌≡◌, sym, ap, subst, ◌∙◌}
use mathlib.Core.Bool.{true}
use mathlib.Core.List.{List, [], ◌∷◌, map}
use native.Mathlib.Numerals.{add-one}
use native.Mathlib.Omega.{arith}
use lib.ListN.{length, get_or, take, drop, set, length-drop, length-map, drop_of_length-le}
use lib.Seq.{take_all, drop-cons}
use Rattle.std.proofs.lemmas.List.{drop-map}
use Rattle.bitmap.specs.Sizes.{max_blocks, bitmap_words}
use Rattle.model.specs.Rules.Sizes.{disk_words}
use Rattle.model.specs.Rules.Stores.{Store, writes}
use Rattle.model.specs.Rules.Disk.{disk_blocks, log_length, log_entries, log_valid}
use Rattle.model.proofs.Laws.Disk.Places.{Places, places-drop}
use Rattle.model.proofs.Laws.Disk.Entries.{valid-places}
use Rattle.model.proofs.Laws.Disk.Parts.{valid-log-length, valid-log-entries, entries-count}
use Rattle.disk_log.specs.Given.{entry_of}

-- a valid log has few entries
pub entries-few : (disk : List ℕ) → disk_blocks disk ≤ max_blocks → log_valid disk ≡ true → log_length disk ≤ bitmap_words
entries-few disk b v = omega (arith, valid-log-length disk v)

-- one of entries that are for words of the bitmap is for one
place-at : (es : List (List ℕ)) (i : ℕ) → Places bitmap_words (map entry_of es) → i < length es
    → get_or (get_or es i []) 0 0 < bitmap_words
place-at [] i p h = absurd (omega arith)
place-at (e ∷ es) zero p h = p.0
place-at (e ∷ es) (suc i) p h = place-at es i p.1 (omega arith)

-- and so is each of a valid log
pub place-below : (disk : List ℕ) (from : ℕ) (es : List (List ℕ)) (i : ℕ) → disk_blocks disk ≤ max_blocks → log_valid disk ≡ true
    → map entry_of es ≡ drop from (log_entries disk) → i < length es
    → get_or (get_or es i []) 0 0 < bitmap_words
place-below disk from es i b v e h =
    place-at es i
    (subst (Places bitmap_words) (sym e)
    (places-drop bitmap_words from (log_entries disk) (valid-places (disk_blocks disk) 0 (log_entries disk) (valid-log-entries disk v) b)))
    h

-- the entries from one on, cut off the pairs
pub entries-from : (es : List (List ℕ)) (from : ℕ) {all : List Store} → map entry_of es ≡ all
    → map entry_of (take (length es - from) (drop from es)) ≡ drop from all
entries-from es from e =
    ap (map entry_of) (take_all (length es - from) (drop from es) (simp length-drop (omega arith)))
    ∙ sym (drop-map entry_of from es)
    ∙ ap (drop from) e

-- one more entry written
pub rewrite-more : (es : List (List ℕ)) (words : List ℕ) (i : ℕ) → i < length es
    → writes (map entry_of (drop (i + 1) es)) (set words (get_or (get_or es i []) 0 0) (get_or (get_or es i []) 1 0))
    ≡ writes (map entry_of (drop i es)) words
unfolding writes
rewrite-more es words i h = rw (drop-cons es i [] h, add-one i)

-- all of them
pub rewrite-end : (es : List (List ℕ)) (words : List ℕ) (i : ℕ) → length es ≤ i → writes (map entry_of (drop i es)) words ≡ words
unfolding writes
rewrite-end es words i h = rw (drop_of_length-le es {i = i} h)

-- the pairs of a valid log are as many as its length tells
pub entries-length : (disk : List ℕ) (es : List (List ℕ)) → length disk ≡ disk_words → disk_blocks disk ≤ max_blocks → log_valid disk ≡ true
    → map entry_of es ≡ log_entries disk
    → length es ≡ log_length disk
entries-length disk es l b v e = sym (length-map es entry_of) ∙ ap length e ∙ entries-count disk l (entries-few disk b v)
