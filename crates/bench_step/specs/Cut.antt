-- Where a line ends in a piece of input.
use Rattle.std.specs.Prelude.{ℕ, ◌≤◌, ◌<◌, ◌≡◌, List, length, get_or}
use Rattle.model.specs.Rules.Line.{newline}
use Rattle.model.specs.Rules.Bench.{max_lines}

-- no byte 10
abbrev pub NoEnd : List ℕ → Type 0
NoEnd bytes = (i : ℕ) → i < length bytes → get_or bytes i 0 ≡ newline → ⊥

-- next is the index of the first byte 10 from index start on, or the number of bytes
pub record EndAt (bytes : List ℕ) (start next : ℕ) : Type 0 where
  pub onward : start ≤ next
  pub within : next ≤ length bytes
  pub none : (i : ℕ) → start ≤ i → i < next → get_or bytes i 0 ≡ newline → ⊥
  pub ends : next < length bytes → get_or bytes next 0 ≡ newline

-- the same for the line of this number; lines past the last that is read don't end
pub record NextEnd (bytes : List ℕ) (start number next : ℕ) : Type 0 where
  pub onward : start ≤ next
  pub within : next ≤ length bytes
  pub lines : next < length bytes → number ≤ max_lines
  pub read : number ≤ max_lines → EndAt bytes start next
