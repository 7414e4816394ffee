-- One word has bits on both sides of the volume's end, and those after it are 0.
use mathlib.Core.Path.{sym, ap, ◌∙◌}
use mathlib.Core.Bool.{Bool, ◌&&◌}
use borrow.Author.Tests.{eq-eqb, ne_eqb}
use Rattle.bitmap.specs.Bits.{no_bits_from}
use Rattle.bitops.proofs.Laws.Compare.{no_bits_words, no_bits_no_words}
use Rattle.bitops.proofs.compare.no_bits_from.Goals as goal

pub returns-in_default : goal.returns-in_default
returns-in_default c = sym (no_bits_no_words c.args.blocks c.args.words.now c.told-words c.fits-words c.in_default.ensures.cases)

pub returns-then-word-blocks-ne0 : goal.returns-then-word-blocks-ne0
returns-then-word-blocks-ne0 c =
    sym
    (no_bits_words c.args.blocks c.args.words.now c.told-words c.fits-words c.in-Some.ensures.cases.0
    ∙ ap (λ (t : Bool). t && no_bits_from 0 c.in-Some.rest.now) (ne_eqb _ 0 c.if-word-blocks-ne0.true))

pub returns : goal.returns
returns c =
    c.zero.ensures
    ∙ sym
    (no_bits_words c.args.blocks c.args.words.now c.told-words c.fits-words c.in-Some.ensures.cases.0
    ∙ ap (λ (t : Bool). t && no_bits_from 0 c.in-Some.rest.now) (eq-eqb _ 0 c.if-word-blocks-ne0.false))
