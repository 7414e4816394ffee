-- The number of the digits so far, of at most five.
use Rattle.std.proofs.Common.{◌≡◌, ◌<◌, ◌^◌, take}
use Rattle.std.specs.List.{fold}
use Rattle.bench_line.proofs.Laws.Digits.{with_digit}
use Rattle.bench_line.proofs.number.number.Given as goal

abbrev pub invariant-loop-byte : goal.invariant-loop-byte
invariant-loop-byte l = record {
  value_is : l.value ≡ fold with_digit 0 (take l.byte-index (take l.len l.bytes));
  small : l.value < 10 ^ l.byte-index;
}
