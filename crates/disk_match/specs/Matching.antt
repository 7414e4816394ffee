-- What document 01's cause 6 compares, part by part and word by word.
use Rattle.std.specs.Prelude.{ℕ, suc, ◌+◌, ◌*◌, Bool, true, cond, ◌&&◌, List, [], ◌∷◌, get_or, leb, ltb, eqb}
use Rattle.std.specs.Int.Bits.{bit_xor}
use Rattle.model.specs.Rules.Sizes.{bitmap_at, log_at}
use Rattle.model.specs.Rules.Disk.{disk_blocks, log_length, log_entries, log_valid, entries_agree}

-- whether words 0 and 1 are this block count and this log length
abbrev pub head_is : List ℕ → ℕ → ℕ → Bool
head_is disk blocks entries = eqb (disk_blocks disk) blocks && eqb (log_length disk) entries

-- "in recovery all p entries must pass cause 5 and agree with SAM": whether a log of so many entries does
unfoldable pub log_agrees : List ℕ → List ℕ → ℕ → ℕ → Bool
log_agrees disk sam blocks entries = head_is disk blocks entries && log_valid disk && entries_agree sam (log_entries disk)

-- ---- a commit, word by word

-- the bits in which the disk's word differs from a word that stays. A word that changes has none here
abbrev pub kept_difference : ℕ → ℕ → ℕ → ℕ
kept_difference word old new = cond (eqb old new) (bit_xor word old) 0

-- whether the bitmap words from number k on that stay are as they were
unfoldable pub kept_match : List ℕ → ℕ → List ℕ → List ℕ → Bool
kept_match disk k [] news = true
kept_match disk k (old ∷ olds) [] = true
kept_match disk k (old ∷ olds) (new ∷ news) = cond (eqb old new) (eqb (get_or disk (bitmap_at + k) 0) old) true && kept_match disk (suc k) olds news

-- whether the words of log entry i are as so many stores done leave them: the first 2i + 1 stores write its number, one more
-- its contents
unfoldable pub entry_written : List ℕ → ℕ → ℕ → ℕ → ℕ → Bool
entry_written disk done i number contents =
    cond (leb done (2 * i)) true
    (eqb (get_or disk (log_at + 2 * i) 0) number
    && cond (leb done (2 * i + 1)) true (eqb (get_or disk (log_at + 2 * i + 1) 0) contents))

-- what word of the bitmap stands on the disk: the new one where it is among the changed words written
abbrev pub checkpointed_word : ℕ → ℕ → ℕ → ℕ → ℕ
checkpointed_word checkpointed i old new = cond (ltb i checkpointed) new old

-- whether the changed bitmap word k, i of them being before it, and its log entry are as the stores done leave them
unfoldable pub word_matches : List ℕ → ℕ → ℕ → ℕ → ℕ → ℕ → ℕ → Bool
word_matches disk done checkpointed k i old new =
    eqb (get_or disk (bitmap_at + k) 0) (checkpointed_word checkpointed i old new) && entry_written disk done i k new

-- and so all changed words from number k on
unfoldable pub changed_match : List ℕ → ℕ → ℕ → ℕ → ℕ → List ℕ → List ℕ → Bool
changed_match disk done checkpointed k i [] news = true
changed_match disk done checkpointed k i (old ∷ olds) [] = true
changed_match disk done checkpointed k i (old ∷ olds) (new ∷ news) =
    cond (eqb old new)
    (changed_match disk done checkpointed (suc k) i olds news)
    (word_matches disk done checkpointed k i old new && changed_match disk done checkpointed (suc k) (i + 1) olds news)
