-- The stores due by d.
use Rattle.std.specs.Prelude.{ℕ, cond, eqb}
use Rattle.model_types.specs.Pending.{stores_for}

-- "If d is 0, the commit ends in its own call without a store. Otherwise that call answers 3·d + 2"
abbrev pub due_for : ℕ → ℕ
due_for changed = cond (eqb changed 0) 0 (stores_for changed)
