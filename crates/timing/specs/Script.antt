-- A script: three numbers of four bytes, then six bytes a step.
use Rattle.std.specs.Prelude.{ℕ}

-- the bytes that are read
abbrev pub script_bytes : ℕ
script_bytes = 65536

-- the steps that they hold
abbrev pub most_steps : ℕ
most_steps = 10920
