-- The words are 0 if no bit has been found so far and those behind are 0.
use mathlib.Core.Path.{◌≡◌}
use mathlib.Core.Bool.{◌&&◌}
use lib.ListN.{drop}
use lib.Dec.{eqb}
use Rattle.bitmap.specs.Bits.{no_bits_from}
use Rattle.bitops.proofs.compare.zero.Given as goal

abbrev pub invariant-loop-word : goal.invariant-loop-word
invariant-loop-word l = no_bits_from 0 l.words ≡ (eqb l.bits 0 && no_bits_from 0 (drop l.word-index l.words))
