-- Every disk word fits 32 bits, and so does every value that a store writes.
use Prim.Native.Nat.{ℕ, zero, suc, ◌+◌, ◌^◌, ◌≤◌, ◌<◌}
use native.Mathlib.Decide.{ℕ_discrete}
use native.Mathlib.Omega.{arith}
use mathlib.Core.Path.{◌≡◌, sym, ap, ◌∙◌, subst}
use mathlib.Core.Bool.{Bool, true, false, cond}
use mathlib.Core.List.{List, [], ◌∷◌, ◌++◌, map}
use lib.ListN.{length, get_or, set, take, drop}
use lib.Seq.{get_or-set_same, get_or-set_other, set_out, get_or-drop}
use lib.Dec.{eqb}
use Rattle.bitmap.proofs.Laws.Bits.{below-or-from}
use mathlib.Core.Logic.{⊎_elim}
use Rattle.model.specs.Rules.Stores.{Store, writes, changes_from, log_stores, on_disk, checkpoint_with, journal_with, commit_point, closing_stores, commit_stores, ◌≔◌}
use Rattle.bitmap.specs.Sizes.{word_bits, bitmap_words}
use Rattle.model.specs.Rules.Sizes.{length_at, bitmap_at, log_at}
use Rattle.model.specs.Rules.Disk.{log_length, disk_bitmap, entries_in, log_entries, durable}
use Rattle.model.proofs.Laws.Disk.Places.{Places}
use Rattle.crash_safety.proofs.Invariant.{Small}

-- every value of a list of stores fits
abbrev pub SmallStores : List Store → Type 0
SmallStores [] = Unit {0}
SmallStores (store ∷ stores) = (store.value < 2 ^ word_bits) × SmallStores stores

set-small : (words : List ℕ) (place value : ℕ) → value < 2 ^ word_bits → Small words → Small (set words place value)
set-small words place value v small k = go (ℕ_discrete k place)
  where
    go : Dec (k ≡ place) → get_or (set words place value) k 0 < 2 ^ word_bits
    go (yes e) =
        ⊎_elim
        (λ (h : place < length words).
        subst (λ (n : ℕ). n < 2 ^ word_bits) (sym (ap (λ (x : ℕ). get_or (set words place value) x 0) e ∙ get_or-set_same words place value 0 h)) v)
        (λ (h : length words ≤ place). subst (λ (l : List ℕ). get_or l k 0 < 2 ^ word_bits) (sym (set_out words place value h)) (small k))
        (below-or-from place (length words))
    go (no n) = subst (λ (x : ℕ). x < 2 ^ word_bits) (sym (get_or-set_other words place k value 0 n)) (small k)

pub writes-small : (stores : List Store) (words : List ℕ) → SmallStores stores → Small words → Small (writes stores words)
unfolding writes
writes-small [] words s small = small
writes-small (store ∷ stores) words s small =
    writes-small stores (set words store.place store.value) s.1 (set-small words store.place store.value s.0 small)

pub take-small : (k : ℕ) (stores : List Store) → SmallStores stores → SmallStores (take k stores)
take-small zero stores s = tt
take-small (suc k) [] s = tt
take-small (suc k) (store ∷ stores) s = (s.0, take-small k stores s.1)

pub drop-small : (k : ℕ) (stores : List Store) → SmallStores stores → SmallStores (drop k stores)
drop-small zero stores s = s
drop-small (suc k) [] s = tt
drop-small (suc k) (store ∷ stores) s = drop-small k stores s.1

append-small : (stores others : List Store) → SmallStores stores → SmallStores others → SmallStores (stores ++ others)
append-small [] others s o = o
append-small (store ∷ stores) others s o = (s.0, append-small stores others s.1 o)

on_disk-small : (entries : List Store) → SmallStores entries → SmallStores (map on_disk entries)
on_disk-small [] s = tt
on_disk-small (entry ∷ entries) s = (s.0, on_disk-small entries s.1)

-- closing stores that are
pub checkpoint-small : (closing entries : List Store) → SmallStores closing → SmallStores entries → SmallStores (checkpoint_with closing entries)
unfolding checkpoint_with
checkpoint-small closing entries c s = append-small (map on_disk entries) closing (on_disk-small entries s) c

log-small : (at : ℕ) (entries : List Store) → Places bitmap_words entries → SmallStores entries → SmallStores (log_stores at entries)
unfolding log_stores
log-small at [] p s = tt
log-small at (entry ∷ entries) p s = (omega (arith, p.0), (s.0, log-small (at + 2) entries p.1 s.1))

pub journal-small : (point : ℕ) (closing entries : List Store)
    → point < 2 ^ word_bits
    → SmallStores closing
    → Places bitmap_words entries
    → SmallStores entries
    → SmallStores (journal_with point closing entries)
unfolding journal_with
journal-small point closing entries small c p s =
    append-small (log_stores log_at entries) (length_at ≔ point ∷ checkpoint_with closing entries) (log-small log_at entries p s)
    (small, checkpoint-small closing entries c s)

pub closing-small : SmallStores closing_stores
closing-small = (omega arith, tt)

pub commit-small : (entries : List Store) → Places bitmap_words entries → length entries ≤ bitmap_words → SmallStores entries → SmallStores (commit_stores entries)
unfolding commit_stores
commit-small entries p few s = journal-small (commit_point entries) closing_stores entries (omega arith) closing-small p s

-- the entries of small words
pub changes-small : (k : ℕ) (old new : List ℕ) → Small new → SmallStores (changes_from k old new)
unfolding changes_from
changes-small k [] new small = tt
changes-small k (o ∷ old) [] small = tt
changes-small k (o ∷ old) (n ∷ new) small = go (eqb o n) (changes-small (suc k) old new (λ j. small (suc j)))
  where
    go : (t : Bool) → SmallStores (changes_from (suc k) old new) → SmallStores (cond t (changes_from (suc k) old new) (k ≔ n ∷ changes_from (suc k) old new))
    go true rest = rest
    go false rest = (small 0, rest)

pub entries_in-small : (n : ℕ) (words : List ℕ) → Small words → SmallStores (entries_in n words)
unfolding entries_in
entries_in-small zero words small = tt
entries_in-small (suc n) [] small = tt
entries_in-small (suc n) (x ∷ []) small = tt
entries_in-small (suc n) (x ∷ y ∷ words) small = (small 1, entries_in-small n words (λ j. small (suc (suc j))))

-- parts of small words
pub small-drop : (n : ℕ) (words : List ℕ) → Small words → Small (drop n words)
small-drop n words small k = subst (λ (x : ℕ). x < 2 ^ word_bits) (sym (get_or-drop n words k 0)) (small (n + k))

small-take : (n : ℕ) (words : List ℕ) → Small words → Small (take n words)
small-take zero words small k = omega arith
small-take (suc n) [] small k = omega arith
small-take (suc n) (x ∷ words) small zero = small zero
small-take (suc n) (x ∷ words) small (suc k) = small-take n words (λ j. small (suc j)) k

pub log-entries-small : (disk : List ℕ) → Small disk → SmallStores (log_entries disk)
unfolding log_entries
log-entries-small disk small = entries_in-small (log_length disk) (drop log_at disk) (small-drop log_at disk small)

pub durable-small : (disk : List ℕ) → Small disk → Small (durable disk)
unfolding durable
durable-small disk small =
    writes-small (log_entries disk) (disk_bitmap disk) (log-entries-small disk small)
    (small-take bitmap_words (drop bitmap_at disk) (small-drop bitmap_at disk small))
