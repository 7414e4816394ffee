-- The part's first bytes are copied behind the line's.
use Rattle.std.proofs.Common.{ap, ◌∙◌, arith, ◌++◌, take}
use Rattle.std.proofs.lemmas.Slice.{take-put_mid}
use Rattle.bench_state.proofs.Laws.Keep.{kept-front}
use Rattle.bench_state.proofs.keep.keep.Goals as goal

pub returns : goal.returns
returns c =
    let a = c.args in
    record {
      few = omega (arith, c.min-count.ensures);
      same =
          take-put_mid a.len _ a.line.now c.copy_from_slice.new.self _ (omega (arith, c.copy_from_slice.ensures.len)) (omega arith)
          ∙ ap (λ bytes. take a.len a.line.now ++ bytes) (c.copy_from_slice.ensures.after ∙ ap (λ n. take n a.part.now) c.min-count.ensures)
          ∙ kept-front a.part.now a.line.now a.len (omega arith) (omega arith);
    }
