-- The reserves of a valid memory are few.
use Prim.Native.Nat.{ℕ, ◌<◌}
use lib.ListN.{get_or}
use Rattle.bitmap.specs.Sizes.{slot_count}
use Rattle.model_types.specs.declared.memory.Memory.{Memory}
use Rattle.model_types.specs.Memory.{no_reserve}
use Rattle.model.proofs.Laws.Memory.Valid.{ValidParts}
use Rattle.model.proofs.Laws.Memory.Fit.{few-reserved, few-drawn}
use Rattle.reserves.specs.Few.{Few}

pub few-at : (memory : Memory) (at : ℕ) → ValidParts memory → at < slot_count → Few (get_or memory.reserves at no_reserve)
few-at memory at parts below = record { reservation = few-reserved memory at parts; drawn = few-drawn memory at parts below }
