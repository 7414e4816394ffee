-- Stores: one word of the disk each. Document 01: "A store writes one word. It lands whole and in turn."
use Rattle.std.specs.Prelude.{ℕ, suc, ◌+◌, cond, List, [], ◌∷◌, ◌++◌, map, length, set, take, eqb}
use Rattle.model.specs.Rules.Sizes.{length_at, bitmap_at, log_at}

-- a word's place and its new contents. A log entry is one too: a bitmap word's number and its new contents
pub record Store : Type 0 where
  pub place : ℕ
  pub value : ℕ

infix 70 ◌≔◌
abbrev pub ◌≔◌ : ℕ → ℕ → Store
◌≔◌ place value = record { place = place; value = value }

-- the words after a list of stores, in turn
unfoldable pub writes : List Store → List ℕ → List ℕ
writes [] words = words
writes (store ∷ stores) words = writes stores (set words store.place store.value)

-- the disk after the first k of a list of stores
abbrev pub after : ℕ → List Store → List ℕ → List ℕ
after k stores disk = writes (take k stores) disk

-- the changed words from number k on, rising: each a log entry
unfoldable pub changes_from : ℕ → List ℕ → List ℕ → List Store
changes_from k [] new = []
changes_from k (old ∷ olds) [] = []
changes_from k (old ∷ olds) (new ∷ news) = cond (eqb old new) (changes_from (suc k) olds news) (k ≔ new ∷ changes_from (suc k) olds news)

-- the words that a commit changes, rising. Their number is d
abbrev pub changes : List ℕ → List ℕ → List Store
changes old new = changes_from 0 old new

-- "for each changed word, rising, entry number then contents (2·d stores)", from a disk word on
unfoldable pub log_stores : ℕ → List Store → List Store
log_stores at [] = []
log_stores at (entry ∷ entries) = at ≔ entry.place ∷ (at + 1) ≔ entry.value ∷ log_stores (at + 2) entries

-- a bitmap word's store: its place on the disk
abbrev pub on_disk : Store → Store
on_disk entry = (bitmap_at + entry.place) ≔ entry.value

-- a checkpoint: the logged words go to the bitmap, in log order, and then the closing stores are made
unfoldable pub checkpoint_with : List Store → List Store → List Store
checkpoint_with closing entries = map on_disk entries ++ closing

-- a journal: the log, the commit point (document 01: the mark), which makes word 1 this, and the checkpoint
unfoldable pub journal_with : ℕ → List Store → List Store → List Store
journal_with point closing entries = log_stores log_at entries ++ (length_at ≔ point ∷ checkpoint_with closing entries)

-- "the mark, word 1 becomes d"
abbrev pub commit_point : List Store → ℕ
commit_point entries = length entries

-- "word 1 becomes 0"
abbrev pub closing_stores : List Store
closing_stores = length_at ≔ 0 ∷ []

-- the end of a commit, and all of a recovery
unfoldable pub checkpoint_stores : List Store → List Store
checkpoint_stores entries = checkpoint_with closing_stores entries

-- all stores of a commit
unfoldable pub commit_stores : List Store → List Store
commit_stores entries = journal_with (commit_point entries) closing_stores entries
