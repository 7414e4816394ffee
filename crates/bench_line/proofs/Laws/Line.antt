-- A line by its length and its first field.
use Rattle.std.proofs.Common.{ℕ, ◌≡◌, ◌≤◌, ◌<◌, List, length}
use Rattle.std.specs.Prelude.{Some, None}
use borrow.Author.Tests.{le-leb, lt-leb}
use Rattle.bench_line.proofs.Laws.Prefix.{found, missing}
use Rattle.model.specs.Rules.Line.{max_line, op_field, ops, after_prefix, parse_op, parse_after_op, parse_line}

module _ (line : List ℕ) where
  pub long-line : max_line < length line → parse_line line ≡ None
  unfolding parse_line
  long-line h = rw (lt-leb (length line) max_line h)

  module _ (short : length line ≤ max_line) where
    pub no-op-field : after_prefix op_field line ≡ None → parse_line line ≡ None
    unfolding parse_line parse_after_op
    no-op-field e = rw (le-leb (length line) max_line short, e)

    pub op-field : (rest : List ℕ) → after_prefix op_field line ≡ Some rest → parse_line line ≡ parse_op ops rest
    unfolding parse_line parse_after_op
    op-field rest e = rw (le-leb (length line) max_line short, e)

pub ruleset line_laws = (long-line, no-op-field, op-field, found, missing)
