-- The phases of a commit's stores, by the words that it changes and the stores done.
use Rattle.std.specs.Prelude.{ℕ, ◌+◌, ◌*◌, ◌<◌, ◌≡◌}
use Rattle.disk_log.specs.declared.phase.Phase.{Phase}
use Rattle.disk_log.specs.declared.phase.Phase.TheVariants.{Log, Point, Word, Closing}

-- "for each changed word, rising, entry number then contents (2·d stores); the mark, word 1 becomes d; the d map words, rising; word
-- 1 becomes 0"
abbrev pub InPhase : ℕ → ℕ → Phase → Type 0
InPhase changed done Log = done < 2 * changed
InPhase changed done Point = done ≡ 2 * changed
InPhase changed done (Word i) = (done ≡ 2 * changed + 1 + i) × (i < changed)
InPhase changed done Closing = done ≡ 2 * changed + 1 + changed

-- the log length on the disk: 0 until the commit point, and then the number of changed words
abbrev pub log_length_in : Phase → ℕ → ℕ
log_length_in Log changed = 0
log_length_in Point changed = 0
log_length_in (Word i) changed = changed
log_length_in Closing changed = changed

-- how many of the changed words are written to the bitmap
abbrev pub checkpointed_in : Phase → ℕ → ℕ
checkpointed_in Log changed = 0
checkpointed_in Point changed = 0
checkpointed_in (Word i) changed = i
checkpointed_in Closing changed = changed
