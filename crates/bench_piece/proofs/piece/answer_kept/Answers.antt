-- The bytes kept and byte 10 behind them are a piece of input.
use Rattle.std.proofs.Common.{refl}
use Rattle.std.proofs.Common.{rules}
use Rattle.bench_piece.proofs.Laws.Line.{line_leads, line_room}
use Rattle.bench_piece.proofs.piece.answer_kept.Goals as goal

pub returns : goal.returns
returns c =
    let answered = c.answer_lines-lines.ensures in
    record {
      leads = line_leads c.args.run.now (search rules) answered;
      none_kept = refl;
      onward = answered.onward;
      room = line_room c.args.run.now (search rules) answered;
      answers = answered.room;
    }
