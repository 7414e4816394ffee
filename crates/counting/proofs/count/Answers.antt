-- A word of each more is counted; at the end none is left.
use native.Mathlib.Omega.{arith}
use mathlib.Core.Path.{ap}
use mathlib.Core.Logic.{⊎_elim}
use mathlib.Core.List.{[], ◌∷◌}
use lib.ListN.{length-append}
use lib.Count.{ones}
use Rattle.std.proofs.lemmas.Nat.{ones-le}
use Rattle.counting.proofs.Laws.Ones.{ones_step, ones_none, ones_none_right}
use Rattle.counting.proofs.count.Goals as goal

pub loop-a-preserved : goal.loop-a-preserved
loop-a-preserved g c =
    let one = length-append c.loop-a.yielded ((c.in-Some.a, c.in-Some.b) ∷ []) in
    let few = ones-le 32 c.word.result c.word.type_inv in (
      rw one (omega (arith, c.loop-a.invariant.0)),
      λ made same.
          let had = rw (c.in-Some.ensures.steps.0, c.in-Some.ensures.steps.1) at (c.loop-a.invariant.1 made same) in
          let step = ones_step made c.in-Some.a.now c.in-Some.b.now c.next.new.self.a.rest.now c.next.new.self.b.rest.now in
          let is = ap ones (same c.in-Some.a.now c.in-Some.b.now c.word.result c.word.ensures) in
          omega (arith, had, step, is),
    )

pub returns : goal.returns
returns g c = λ made same.
    let all = c.loop-a.invariant.1 made same in
    ⊎_elim (λ p. omega (arith, all, ones_none made c.loop-a.a-iterator.a.rest.now c.loop-a.a-iterator.b.rest.now p.1.0))
    (λ p. omega (arith, all, ones_none_right made c.loop-a.a-iterator.a.rest.now c.loop-a.a-iterator.b.rest.now p.1.0))
    c.in-None.ensures.steps
