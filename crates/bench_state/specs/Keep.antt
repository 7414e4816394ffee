-- What is kept of a line that doesn't end in a piece of input.
use Rattle.std.specs.Prelude.{ℕ, suc, ◌≤◌, ◌<◌, ◌≡◌, List, ◌++◌, length, take, get_or}
use Rattle.model.specs.Rules.Line.{max_line, newline}

-- the bytes kept: one more than a line may have
abbrev pub kept : ℕ
kept = suc max_line

-- their room, with byte 10 behind them
abbrev pub kept_room : ℕ
kept_room = suc kept

-- no byte 10: what NoEnd of bench_step says, and neither crate stands on the other
abbrev pub NoNewline : List ℕ → Type 0
NoNewline bytes = (i : ℕ) → i < length bytes → get_or bytes i 0 ≡ newline → ⊥

-- the part stands behind the first len bytes of the line; of a longer line the first bytes are kept
pub record Keeps (part line : List ℕ) (len : ℕ) (after : List ℕ) (next : ℕ) : Type 0 where
  pub few : next ≤ kept
  pub same : take next after ≡ take kept (take len line ++ part)
