-- What the lines leave, with the bytes behind the last of them kept.
use Rattle.std.proofs.Common.{arith}
use lib.Seq.{length-take-le}
use Rattle.bench_piece.proofs.Laws.Piece.{rest-unended, rest_leads}
use Rattle.bench_piece.proofs.piece.answer_rest.Goals as goal

pub invariant_of-run : goal.invariant_of-run
invariant_of-run c = record {
  few = c.keep-run.ensures.few;
  lines = c.answer_lines-lines.ensures.few;
  unended = rest-unended c.args.run.now c.requires.none_kept c.answer_lines-lines.ensures c.keep-run.ensures;
}

pub returns : goal.returns
returns c =
    let answered = c.answer_lines-lines.ensures in
    record {
      leads = rest_leads c.args.run.now c.requires.none_kept answered c.keep-run.ensures;
      onward = answered.onward;
      within = omega (arith, answered.room, answered.lines, answered.within, c.requires.input_in_bounds);
      answers = rw (length-take-le c.args.at c.args.out.now (omega (arith, c.requires.input_in_bounds))) answered.room;
    }
