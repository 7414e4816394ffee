-- Calls made in turn. Work run to its end: the stores of a call, made one after the other until none is due; and a call with its stores.
use Rattle.std.specs.Prelude.{ℕ, zero, suc, ◌≡◌, cond, List, [], ◌∷◌, eqb}
use Rattle.std.proofs.Math.Option.{none}
use Rattle.model.specs.Types.{Memory}
use Rattle.model.specs.Rules.Pending.{stores_left}
use Rattle.model.specs.Rules.Calls.Store.{store_error, store_memory, store_disk}
use Rattle.model.specs.Rules.Outcome.{Call, Outcome, outcome}

-- a memory and its disk
pub record State : Type 0 where
  pub memory : Memory
  pub disk : List ℕ

-- memory and disk after calls made in turn
unfoldable pub after_calls : List Call → Memory → List ℕ → State
after_calls [] memory disk = record { memory = memory; disk = disk }
after_calls (call ∷ calls) memory disk = after_calls calls (outcome call memory disk).memory (outcome call memory disk).disk

-- and after n store calls, one after the other
abbrev pub after_stores : ℕ → Memory → List ℕ → State
after_stores zero memory disk = record { memory = memory; disk = disk }
after_stores (suc n) memory disk = after_stores n (store_memory memory disk) (store_disk memory disk)

-- each of the n store calls is accepted
abbrev pub StoresAccepted : ℕ → Memory → List ℕ → Type 0
StoresAccepted zero memory disk = Unit {0}
StoresAccepted (suc n) memory disk = (store_error memory disk ≡ none) × StoresAccepted n (store_memory memory disk) (store_disk memory disk)

-- memory and disk with the pending work run to its end
unfoldable pub completed : Memory → List ℕ → State
completed memory disk = after_stores (stores_left memory.pending) memory disk

-- memory and disk after a call and, if it was accepted, all stores that are then due
unfoldable pub carried_out : Call → Memory → List ℕ → State
carried_out call memory disk =
    let after : Outcome = outcome call memory disk in
    cond (eqb after.number 0) (completed after.memory after.disk) (record { memory = after.memory; disk = after.disk })
