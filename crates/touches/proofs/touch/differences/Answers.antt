-- Each word is the difference of the two in its place.
use Rattle.std.proofs.Common.{rules}
use Rattle.touches.proofs.Laws.Differ.{differ_each}
use Rattle.touches.proofs.touch.differences.Goals as goal

pub returns : goal.returns
returns c = differ_each _ _ _ c.told-sam c.told-com c.combine.array_long (λ k h. search (c.combine.ensures k h, rules))
