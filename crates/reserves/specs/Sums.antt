-- What slots have drawn, together.
use Rattle.std.specs.Prelude.{Bool, List, ltb}
use Rattle.std.specs.List.{list_any}
use Rattle.model_types.specs.declared.memory.Reserve.{Reserve}

-- whether any slot has drawn something
unfoldable pub any_drawn : List Reserve → Bool
any_drawn reserves = list_any (λ (reserve : Reserve). ltb 0 reserve.drawn) reserves
