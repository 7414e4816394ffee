-- The ledger of document 01: which blocks are allocated, and what each slot took and gave back, kept from calls and
-- answers alone. "The ledger is fed each call's kind, seat and block, its answer, and the numbers that an allocate lists;
-- it never looks into memory or medium."
use Rattle.std.specs.Prelude.{ℕ, zero, suc, ◌+◌, ◌*◌, ◌/◌, Bool, false, cond, ◌||◌, List, [], ◌∷◌, ◌++◌, map, get_or, set, replicate, eqb}
use Rattle.std.proofs.Math.Option.{Option, none, some}
use Rattle.bitmap.specs.Sizes.{bitmap_words, slot_count}
use Rattle.bitmap.specs.Blocks.{member}

pub data Kind : Type 0 where
  opening starting allocating deallocating precommitting committing rolling storing asking reserving crashing : Kind

-- what the ledger is fed of a call: its kind, slot and block, its answer's number and value, and the numbers that an allocate, of an
-- extent or not, lists
pub record Event : Type 0 where
  pub kind : Kind
  pub slot : ℕ
  pub block : ℕ
  pub answer : ℕ
  pub value : ℕ
  pub listed : List ℕ

-- a slot's sets taken and freed (document 01: given back)
pub record Sets : Type 0 where
  pub taken : List ℕ
  pub freed : List ℕ

-- what is under count: a commit, by its slot and its number
pub data Counting : Type 0 where
  commit_at : ℕ → ℕ → Counting

-- "It holds a set A, for each seat a set taken and a set given back, and a commit under count: none, or a seat and a number."
-- A is `allocated`
pub record Ledger : Type 0 where
  pub allocated : List ℕ
  pub slots : List Sets
  pub counting : Option Counting

abbrev pub no_sets : Sets
no_sets = record { taken = []; freed = [] }

abbrev pub with_taken : Sets → List ℕ → Sets
with_taken sets taken = record { taken = taken; freed = sets.freed }

abbrev pub with_freed : Sets → List ℕ → Sets
with_freed sets freed = record { taken = sets.taken; freed = freed }

abbrev pub sets_of : Ledger → ℕ → Sets
sets_of ledger s = get_or ledger.slots s no_sets

abbrev pub ledger_of : List ℕ → List Sets → Option Counting → Ledger
ledger_of allocated slots counting = record { allocated = allocated; slots = slots; counting = counting }

-- what a crash leaves of a slot's sets
unfoldable pub crashed_sets : Sets → Sets
crashed_sets sets = no_sets

-- "every seat's sets are emptied, the count is none"
unfoldable pub crashed : Ledger → Ledger
crashed ledger = ledger_of ledger.allocated (map crashed_sets ledger.slots) none

-- "At first every set is empty and the count is none."
abbrev pub empty_ledger : Ledger
empty_ledger = ledger_of [] (replicate slot_count no_sets) none

abbrev pub with_all_sets : Ledger → List Sets → Ledger
with_all_sets ledger slots = ledger_of ledger.allocated slots ledger.counting

abbrev pub with_sets : Ledger → ℕ → Sets → Ledger
with_sets ledger s sets = with_all_sets ledger (set ledger.slots s sets)

abbrev pub with_counting : Ledger → Option Counting → Ledger
with_counting ledger counting = ledger_of ledger.allocated ledger.slots counting

-- whether a set has a block in bitmap word k
unfoldable pub has_word : ℕ → List ℕ → Bool
has_word k [] = false
has_word k (b ∷ blocks) = eqb (b / 32) k || has_word k blocks

-- the number of bitmap words from k on, n of them, in which a set has blocks
unfoldable pub words_from : ℕ → ℕ → List ℕ → ℕ
words_from k zero blocks = 0
words_from k (suc n) blocks = cond (has_word k blocks) 1 0 + words_from (suc k) n blocks

-- "d is the number of map words in which its two sets have blocks"
unfoldable pub sets_words : Sets → ℕ
sets_words sets = words_from 0 bitmap_words (sets.taken ++ sets.freed)

-- the blocks of the first list that aren't in the second
unfoldable pub without : List ℕ → List ℕ → List ℕ
without [] gone = []
without (b ∷ blocks) gone = cond (member b gone) (without blocks gone) (b ∷ without blocks gone)

-- "Allocate: the numbers listed join the seat's taken."
unfoldable pub takes : Ledger → ℕ → List ℕ → Ledger
takes ledger s listed = with_sets ledger s (with_taken (sets_of ledger s) ((sets_of ledger s).taken ++ listed))

-- "Deallocate: the block joins its given back."
unfoldable pub frees : Ledger → ℕ → ℕ → Ledger
frees ledger s block = with_sets ledger s (with_freed (sets_of ledger s) ((sets_of ledger s).freed ++ (block ∷ [])))

-- "Commit: If d is 0, nothing alters; else the seat is under count, at 0."
unfoldable pub counts : Ledger → ℕ → Ledger
counts ledger s = cond (eqb (sets_words (sets_of ledger s)) 0) ledger (with_counting ledger (some (commit_at s 0)))

-- the commit point (document 01: the mark store): "A loses what the seat gave back and gains what it took, both its sets
-- are emptied, the count is none."
unfoldable pub commits : Ledger → ℕ → Ledger
commits ledger s =
    ledger_of
    (without ledger.allocated (sets_of ledger s).freed ++ (sets_of ledger s).taken)
    (set ledger.slots s no_sets)
    none

-- one store more of what is under count: "a number under count rises by 1. At 2·d + 1 this is the mark store"
unfoldable pub counts_store : Ledger → Counting → Ledger
counts_store ledger (commit_at s number) =
    cond (eqb (number + 1) (2 * sets_words (sets_of ledger s) + 1)) (commits ledger s) (with_counting ledger (some (commit_at s (number + 1))))

-- "Store": where nothing is under count, nothing alters
unfoldable pub stores : Ledger → Option Counting → Ledger
stores ledger none = ledger
stores ledger (some counting) = counts_store ledger counting

-- what an accepted call, or a crash, alters. "start, precommit, status: nothing alters"; a commit cost asks as status does. Nor does a
-- reserve (document 02, job 7), which touches no block
unfoldable pub entered : Kind → Event → Ledger → Ledger
entered opening event ledger = crashed ledger
entered starting event ledger = ledger
entered allocating event ledger = takes ledger event.slot event.listed
entered deallocating event ledger = frees ledger event.slot event.block
entered precommitting event ledger = ledger
entered committing event ledger = counts ledger event.slot
entered rolling event ledger = with_sets ledger event.slot no_sets
entered storing event ledger = stores ledger ledger.counting
entered asking event ledger = ledger
entered reserving event ledger = ledger
entered crashing event ledger = crashed ledger

-- "Refused call: nothing alters."
unfoldable pub enter : Event → Ledger → Ledger
enter event ledger = cond (eqb event.answer 0) (entered event.kind event ledger) ledger

-- one event after the other
unfoldable pub enter_all : List Event → Ledger → Ledger
enter_all [] ledger = ledger
enter_all (event ∷ events) ledger = enter_all events (enter event ledger)

-- a crash
abbrev pub crash_event : Event
crash_event = record { kind = crashing; slot = 0; block = 0; answer = 0; value = 0; listed = [] }

-- how many slots have a block in their taken
unfoldable pub takers : ℕ → List Sets → ℕ
takers b [] = 0
takers b (sets ∷ slots) = cond (member b sets.taken) 1 0 + takers b slots

-- "A block's holders are A, if the block is in it, and each seat with the block in its taken."
unfoldable pub holders : Ledger → ℕ → ℕ
holders ledger b = cond (member b ledger.allocated) 1 0 + takers b ledger.slots
