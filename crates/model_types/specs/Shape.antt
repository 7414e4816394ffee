-- What every memory of the program has, valid or not.
use Rattle.std.specs.Prelude.{ℕ, ◌≡◌, length}
use Rattle.bitmap.specs.Sizes.{slot_count}
use Rattle.bitmap.specs.Bits.{IsBitmap}
use Rattle.model_types.specs.declared.memory.Memory.{Memory}
use Rattle.model_types.specs.Memory.{slot_at}

-- words of 32 bits, and arrays of the right lengths
pub record HasShape (memory : Memory) : Type 0 where
  pub sam : IsBitmap memory.sam.words
  pub «com» : IsBitmap memory.com.words
  pub slots : length memory.slots ≡ slot_count
  pub tam : (s : ℕ) → IsBitmap (slot_at memory s).tam.words
  pub reserves : length memory.reserves ≡ slot_count
