-- The even words of the log are numbers, the odd ones contents.
use native.Mathlib.Omega.{arith}
use Rattle.next_store.proofs.Laws.NextOfCommit.{logged_number, logged_contents}
use Rattle.next_store.proofs.next.log_word.Goals as goal

pub returns-then-done-eq0 : goal.returns-then-done-eq0
returns-then-done-eq0 c =
    logged_number c.args.old.now c.args.new.now (omega arith) c.args.done c.requires.done_bound c.changed_word-number.ensures c.if-done-eq0.true

pub returns-else-done-eq0 : goal.returns-else-done-eq0
returns-else-done-eq0 c =
    logged_contents c.args.old.now c.args.new.now (omega arith) c.args.done c.requires.done_bound c.changed_word-number.ensures c.if-done-eq0.false
