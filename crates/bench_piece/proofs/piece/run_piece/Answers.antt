-- The line that is kept goes on to the first byte 10; then it is answered, and the lines behind it are.
use Rattle.std.proofs.Common.{arith}
use lib.ListN.{length-take}
use Rattle.bench_piece.proofs.Laws.Piece.{first-unended, all-leads, then-leads}
use Rattle.bench_piece.proofs.piece.run_piece.Goals as goal

pub invariant_of-run : goal.invariant_of-run
invariant_of-run c = record {
  few = c.keep-run.ensures.few;
  lines = c.args.run.now.lines;
  unended = first-unended c.args.run.now c.line_end-end.ensures c.keep-run.ensures;
}

pub returns-then-end-input : goal.returns-then-end-input
returns-then-end-input c = record {
  leads = all-leads c.args.run.now c.line_end-end.ensures c.keep-run.ensures c.if-end-input.true;
  onward = omega arith;
  within = omega arith;
  answers = omega arith;
}

pub returns : goal.returns
returns c =
    let end = c.line_end-end.ensures in
    let ended = c.answer_kept-at.ensures in
    let rest = c.answer_rest.ensures in
    record {
      leads = then-leads c.args.run.now end c.keep-run.ensures (omega (arith, end.within, c.if-end-input.false)) ended.leads rest.leads;
      onward = omega (arith, ended.onward, rest.onward);
      within = rest.within;
      answers = omega (arith, ended.answers, rest.answers, length-take c.answer_kept-at.result c.answer_kept-at.new.out);
    }
