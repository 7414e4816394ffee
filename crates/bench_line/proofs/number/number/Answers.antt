-- Each digit is one more of the number, of five at most.
use Rattle.std.proofs.Common.{ℕ, ◌+◌, ◌*◌, sym, ap, ◌∙◌, arith, take, get_or}
use Rattle.std.proofs.lemmas.List.Sums.{fold_more}
use Rattle.bench_line.proofs.Laws.Digits.{with_digit, digit_at, four-digits, digit-more, number_read}
use Rattle.bench_line.proofs.number.number.Goals as goal

pub overflow_mul-value : goal.overflow_mul-value
overflow_mul-value c =
    let l = c.loop-byte in
    omega (arith, four-digits c.args.bytes.now c.digits_len-len.result l.byte-index l.value c.digits_len-len.ensures c.if-len-gt-MAX_DIGITS.false c.loop-byte-test.true l.invariant.small)

pub overflow_add-value : goal.overflow_add-value
overflow_add-value c =
    let l = c.loop-byte in
    omega (
      arith,
      c.from.ensures,
      digit_at c.args.bytes.now c.digits_len-len.result l.byte-index c.digits_len-len.ensures c.loop-byte-test.true,
      four-digits c.args.bytes.now c.digits_len-len.result l.byte-index l.value c.digits_len-len.ensures c.if-len-gt-MAX_DIGITS.false c.loop-byte-test.true l.invariant.small,
    )

pub loop-byte-preserved : goal.loop-byte-preserved
loop-byte-preserved c =
    let l = c.loop-byte in
    let len = c.digits_len-len.result in
    let bytes = take len c.args.bytes.now in
    record {
      value_is =
          ap (λ (digit : ℕ). 10 * l.value + digit) c.from.ensures
          ∙ ap (λ (value : ℕ). with_digit value (get_or bytes l.byte-index 0)) l.invariant.value_is
          ∙ sym (fold_more with_digit 0 bytes l.byte-index 0 c.loop-byte-test.true);
      small = rw c.from.ensures (digit-more c.args.bytes.now len l.byte-index l.value c.digits_len-len.ensures c.if-len-gt-MAX_DIGITS.false c.loop-byte-test.true l.invariant.small);
    }

pub returns : goal.returns
returns c =
    let l = c.loop-byte in
    number_read c.args.bytes.now c.digits_len-len.result l.byte-index l.value c.digits_len-len.ensures c.if-len-eq0.false c.if-len-gt-MAX_DIGITS.false c.loop-byte-test.false l.invariant.value_is
