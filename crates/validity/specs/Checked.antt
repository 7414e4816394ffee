-- What a memory's test goes by beside model's `valid`, and what it tells.
use Rattle.std.specs.Prelude.{ℕ, Bool, ◌&&◌, Option, Some, None, cond, length, ltb, eqb}
use Rattle.bitmap.specs.Sizes.{blocks_in_range}
use Rattle.bitmap.specs.Bits.{no_bits_from}
use Rattle.model_types.specs.declared.memory.Pending.TheVariants.{Nothing}
use Rattle.model_types.specs.declared.memory.Memory.{Memory}
use Rattle.model_types.specs.Memory.{no_reserves, with_reserves, with_pending}
use Rattle.model.specs.Rules.Available.{available}
use Rattle.model.specs.Rules.Reserves.{total_reserved}

-- the first clauses of `valid`: the block count, the cursor, SAM and COM
abbrev pub volume_valid : Memory → Bool
volume_valid memory =
    blocks_in_range memory.blocks
    && ltb memory.cursor memory.blocks
    && no_bits_from memory.blocks memory.sam.words
    && no_bits_from memory.blocks memory.com.words

-- the memory with nothing reserved and nothing pending, which is valid just if its bitmaps are right
abbrev pub bare : Memory → Memory
bare memory = with_reserves (with_pending memory Nothing) no_reserves

-- the available blocks where so much is reserved, counted only if anything is
abbrev pub available_for : ℕ → Memory → Option ℕ
available_for reserved memory = cond (eqb reserved 0) None (Some (length (available memory)))

-- and by what is reserved in the memory
abbrev pub counted_for : Memory → Option ℕ
counted_for memory = available_for (total_reserved memory.reserves) memory
