-- The disk is compared part by part; its log words mean nothing here.
use mathlib.Core.Path.{sym, ap, ◌∙◌}
use mathlib.Core.List.{List}
use native.Mathlib.Omega.{arith}
use Prim.Native.Nat.{ℕ}
use Rattle.model.specs.Rules.Valid.{same_words}
use Rattle.disk_log.proofs.Laws.Tests.{and_left, and_none}
use Rattle.disk_match.proofs.Laws.DiskMatches.{settled-tests}
use Rattle.disk_match.proofs.matching.settled_matches.Goals as goal

pub returns-then-head_matches : goal.returns-then-head_matches
returns-then-head_matches c =
    c.same.ensures
    ∙ ap (λ (w : List ℕ). same_words w c.args.sam.now) c.bitmap.ensures
    ∙ sym
    (settled-tests c.args.blocks c.args.disk.now c.args.sam.now (omega arith) (omega arith)
    ∙ and_left _ (sym c.head_matches.ensures ∙ c.if-head_matches.true))

pub returns-else-head_matches : goal.returns-else-head_matches
returns-else-head_matches c =
    c.if-head_matches.false
    ∙ sym
    (settled-tests c.args.blocks c.args.disk.now c.args.sam.now (omega arith) (omega arith)
    ∙ and_none _ (sym c.head_matches.ensures ∙ c.if-head_matches.false))
