-- Each word is `refresh_word` of the three.
use Rattle.std.proofs.Common.{rules}
use Rattle.bitops.specs.Combine.{refresh_word}
use Rattle.bitops.proofs.Laws.Combine.{zip3_each}
use Rattle.bitops.proofs.combine.refresh.Goals as goal

pub returns : goal.returns
returns c = zip3_each refresh_word _ _ _ c.told-old c.told-new c.told-tam _ c.combine.array_long (λ k h. search (c.combine.ensures k h, rules))
