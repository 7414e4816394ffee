-- Past the word that the volume fills in part there is none.
use Prim.Native.Nat.{◌+◌, ◌*◌, ◌/◌}
use native.Mathlib.Omega.{arith}
use mathlib.Core.Path.{sym}
use Rattle.counting.proofs.Laws.Available.{available-count, available-none}
use Rattle.counting.proofs.count_rest.Goals as goal

pub returns-then-blocks-eq0 : goal.returns-then-blocks-eq0
returns-then-blocks-eq0 c =
    let a = c.args in
    sym (available-none a.blocks a.sam.now a.«com».now (32 * (a.blocks / 32)) (omega arith))

pub returns : goal.returns
returns c =
    let a = c.args in
    let k = a.blocks / 32 in
    rw c.available_word.ensures
    (omega (
      arith,
      available-count a.blocks a.sam.now a.«com».now k (record { size = c.told-sam; small = c.fits-sam }) (record { size = c.told-com; small = c.fits-com }),
      available-none a.blocks a.sam.now a.«com».now (32 * (k + 1)) (omega arith),
    ))
