-- The digits are put behind the name.
use native.Mathlib.Omega.{arith}
use Rattle.bench_answer.proofs.Laws.Put.{put_then}
use Rattle.bench_answer.proofs.put.put_field.Goals as goal

pub returns : goal.returns
returns c = put_then (omega arith) c.put_bytes-after_name.ensures c.put_decimal.ensures
