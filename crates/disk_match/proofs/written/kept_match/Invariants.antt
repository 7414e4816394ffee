-- The words that stay are as they were if nothing has differed so far and those still to come are.
use mathlib.Core.Path.{◌≡◌}
use mathlib.Core.Bool.{◌&&◌}
use lib.Dec.{eqb}
use Rattle.disk_match.specs.Matching.{kept_match}
use Rattle.disk_match.proofs.Laws.Kept.{words_kept}
use Rattle.disk_match.proofs.written.kept_match.Given as goal

abbrev pub invariant-loop-word : goal.invariant-loop-word
invariant-loop-word l =
    kept_match l.disk 0 l.old l.new
    ≡ (eqb l.differences 0 && words_kept l.word-iterator.a.a.rest.now l.word-iterator.a.b.rest.now l.word-iterator.b.rest.now)
