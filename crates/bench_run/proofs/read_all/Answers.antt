-- Each piece that is read leads on, and what it prints is written.
use Rattle.std.proofs.Common.{sym, ◌∙◌, arith}
use Rattle.bench_run.proofs.Laws.Whole.{reading-start, reading-more, reading-done}
use Rattle.bench_run.proofs.read_all.Goals as goal

pub loop-pieces-init : goal.loop-pieces-init
loop-pieces-init c = reading-start c.requires.begun c.requires.disk_value c.none-read.ensures.counts c.none-written.ensures

pub returns-then-not-reads_on : goal.returns-then-not-reads_on
returns-then-not-reads_on c =
    reading-done c.loop-pieces.invariant c.piece-n.new.input c.piece-n.result c.piece-n.ensures.within c.run_piece-end.ensures
    c.piece-n.ensures.last c.piece-n.ensures.counts c.piece.ensures (sym c.reads_on.ensures ∙ c.if-not-reads_on.true)

pub loop-pieces-preserved : goal.loop-pieces-preserved
loop-pieces-preserved c =
    reading-more c.loop-pieces.invariant c.piece-n.new.input c.piece-n.result c.piece-n.ensures.within c.run_piece-end.ensures
    c.piece-n.ensures.last c.piece-n.ensures.counts c.piece.ensures (sym c.reads_on.ensures ∙ c.if-not-reads_on.false) (omega (arith, c.piece-n.ensures.within))
