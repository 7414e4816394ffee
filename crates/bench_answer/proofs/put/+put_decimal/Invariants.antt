-- The number: its tenth is printed first, and then its last digit.
use Rattle.bench_answer.proofs.put.+put_decimal.Given as goal

abbrev pub decreases-put_decimal : goal.decreases-put_decimal
decreases-put_decimal l = l.n
