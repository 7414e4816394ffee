-- Of a word before the last all bits are kept.
use Prim.Native.Nat.{◌*◌, ◌-◌}
use native.Mathlib.Omega.{arith}
use Rattle.available.proofs.Laws.Available.{available_whole}
use Rattle.available.proofs.available.available_word.Goals as goal

pub returns-else-left-lt-WORD_BITS : goal.returns-else-left-lt-WORD_BITS
returns-else-left-lt-WORD_BITS c =
    let a = c.args in
    let whole = available_whole a.blocks a.sam.now a.«com».now a.k (a.blocks - a.k * 32) (omega arith) (omega arith) in
    cc
