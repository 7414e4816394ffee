-- Each piece that is read leads on.
use Rattle.bench_run.proofs.Laws.Whole.{Reading}
use Rattle.bench_run.proofs.read_all.Given as goal

abbrev pub invariant-loop-pieces : goal.invariant-loop-pieces
invariant-loop-pieces l = Reading l.run l.disk l.read l.written l.pieces
