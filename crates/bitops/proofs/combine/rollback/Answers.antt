-- Each word is `rollback_word` of the three.
use Rattle.std.proofs.Common.{rules}
use Rattle.bitops.specs.Combine.{rollback_word}
use Rattle.bitops.proofs.Laws.Combine.{zip3_each}
use Rattle.bitops.proofs.combine.rollback.Goals as goal

pub returns : goal.returns
unfolding rollback_word
returns c = zip3_each rollback_word _ _ _ c.told-com c.told-sam c.told-tam _ c.combine.array_long (λ k h. search (c.combine.ensures k h, rules))
