-- One cause.
use native.Mathlib.Omega.{arith}
use borrow.Author.Tests.{lt-ltb, le-ltb}
use Rattle.model_types.specs.declared.error.Error.TheVariants.{OverReserved}
use Rattle.model.specs.Rules.Causes.{over_reserved}
use Rattle.model.proofs.Laws.Calls.Turns.{held, passed, ended}
use Rattle.causes.proofs.grants.room_causes.Goals as goal

pub returns-then-from-kept : goal.returns-then-from-kept
unfolding over_reserved
returns-then-from-kept c = held _ OverReserved _ (lt-ltb _ _ (omega (arith, c.if-from-kept.true, c.from.ensures, c.from-2.ensures)))

pub returns : goal.returns
unfolding over_reserved
returns c = passed _ OverReserved _ (le-ltb _ _ (omega (arith, c.if-from-kept.false, c.from.ensures, c.from-2.ensures))) (ended _)
