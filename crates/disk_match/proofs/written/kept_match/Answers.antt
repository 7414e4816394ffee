-- A word more is compared; at the end all are.
use Prim.Native.Nat.{ℕ}
use mathlib.Core.Path.{◌≡◌, sym, ap, ◌∙◌}
use mathlib.Core.Bool.{true, and-true}
use native.Mathlib.Omega.{arith}
use lib.ListN.{length, take, drop}
use lib.Dec.{eqb}
use Rattle.bitmap.specs.Sizes.{bitmap_words}
use Rattle.model.specs.Rules.Sizes.{bitmap_at}
use Rattle.disk_match.specs.Matching.{kept_match}
use Rattle.std.proofs.Math.Logic.{⊎_elim}
use Rattle.disk_match.proofs.Laws.Kept.{words_kept, kept-words, kept_step, no-words, no-olds, no-news}
use Rattle.disk_match.proofs.written.kept_match.Goals as goal

pub loop-word-init : goal.loop-word-init
loop-word-init c =
    let disk = c.args.disk.now in
    let old = c.args.old.now in
    let size : length old ≡ bitmap_words = omega arith in
    let front : take (length old) (drop bitmap_at disk) ≡ take bitmap_words (drop bitmap_at disk) =
    ap (λ (n : ℕ). take n (drop bitmap_at disk)) size in
    let words : kept_match disk 0 old c.args.new.now ≡ words_kept (take (length old) (drop bitmap_at disk)) old c.args.new.now =
    kept-words disk 0 old c.args.new.now (omega arith) (omega arith) in
    cc (c.iter.ensures.rest, c.zip.ensures.first, c.zip.ensures.second.0, c.zip-word-items.ensures.first, c.zip-word-items.ensures.second.0)

pub loop-word-preserved : goal.loop-word-preserved
loop-word-preserved c =
    let ((words, olds), news) = c.in-Some.ensures.steps in
    c.loop-word.invariant
    ∙ kept_step c.loop-word.differences _ _ _ words olds news c.kept_difference-differences.ensures

pub returns : goal.returns
returns c =
    let words = c.loop-word.word-iterator.a.a.rest.now in
    let olds = c.loop-word.word-iterator.a.b.rest.now in
    let news = c.loop-word.word-iterator.b.rest.now in
    let none : words_kept words olds news ≡ true =
    ⊎_elim
    (λ h. ⊎_elim (λ w. no-words words olds news w.1.0) (λ o. no-olds words olds news o.1.0) h.1)
    (λ n. no-news words olds news n.1.0)
    c.in-None.ensures.steps in
    sym (c.loop-word.invariant ∙ rw none (and-true (eqb c.loop-word.differences 0)))
