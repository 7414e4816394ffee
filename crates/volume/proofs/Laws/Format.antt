-- Format: its causes in turn.
use Prim.Native.Nat.{ℕ, ◌-◌, ◌≤◌, ◌<◌}
use mathlib.Core.Path.{◌≡◌, sym, ap, ◌∙◌}
use mathlib.Core.Bool.{true, false}
use mathlib.Core.Option.{Option, none, some}
use mathlib.Core.List.{List}
use native.Mathlib.Omega.{arith}
use mathlib.Core.Logic.{⊎_elim}
use lib.ListN.{length, set, replicate}
use Rattle.std.proofs.lemmas.List.{ext_get_or, get_or-replicate}
use Rattle.std.specs.List.{AllWithin, HoldsAt}
use Rattle.bitmap.proofs.Laws.Bits.{below-or-from}
use borrow.Author.Tests.{eq-eqb, ne_eqb}
use Rattle.std.specs.Prelude.{Ok, Err}
use Rattle.model_types.specs.declared.error.Error.{Error}
use Rattle.model_types.specs.declared.error.Error.TheVariants.{DiskLength, BlocksRange}
use Rattle.model.specs.Rules.First.{first, first_or, unless_refused}
use Rattle.model_types.specs.Answers.{answer}
use Rattle.bitmap.specs.Sizes.{blocks_in_range}
use Rattle.model.specs.Rules.Causes.{disk_length_wrong, blocks_out_of_range}
use Rattle.model.specs.Rules.Calls.Format.{format_error, formatted, format_answer, format_disk}

module _ (disk : List ℕ) (blocks : ℕ) where
  pub refused : (error : Error) → format_error disk blocks ≡ some error → (Err error ≡ format_answer disk blocks) × (disk ≡ format_disk disk blocks)
  unfolding format_answer format_disk answer unless_refused
  refused error q = (ap (λ (e : Option Error). answer e tt) (sym q), ap (λ (e : Option Error). unless_refused e (formatted blocks) disk) (sym q))

  pub accepted : format_error disk blocks ≡ none → (Ok tt ≡ format_answer disk blocks) × (formatted blocks ≡ format_disk disk blocks)
  unfolding format_answer format_disk answer unless_refused
  accepted q = (ap (λ (e : Option Error). answer e tt) (sym q), ap (λ (e : Option Error). unless_refused e (formatted blocks) disk) (sym q))

  pub wrong-length : (length disk ≡ 386 → ⊥) → format_error disk blocks ≡ some DiskLength
  unfolding format_error first first_or disk_length_wrong
  wrong-length n = rw (ne_eqb (length disk) 386 n)

  pub out_of_range : length disk ≡ 386 → blocks_in_range blocks ≡ false → format_error disk blocks ≡ some BlocksRange
  unfolding format_error first first_or disk_length_wrong blocks_out_of_range
  out_of_range l r = rw (eq-eqb (length disk) 386 l, r)

  pub none-holds : length disk ≡ 386 → blocks_in_range blocks ≡ true → format_error disk blocks ≡ none
  unfolding format_error first first_or disk_length_wrong blocks_out_of_range
  none-holds l r = rw (eq-eqb (length disk) 386 l, r)

-- all words filled with zeros, and then the block count
pub filled : (blocks : ℕ) (words : List ℕ) (n : ℕ) → n ≡ 386 → length words ≡ n
    → AllWithin (λ (w : ℕ). w ≡ 0) words 0 (n - 1)
    → (0 < n → HoldsAt (λ (w : ℕ). w ≡ 0) words (n - 1))
    → set words 0 blocks ≡ formatted blocks
unfolding formatted
filled blocks words n e size zeros last =
    ap (λ (l : List ℕ). set l 0 blocks)
    (ext_get_or 0 words (replicate 386 0) (size ∙ e)
    (λ k l.
    ⊎_elim
    (λ (h : k < 385). zeros k 0 (omega arith) (omega (arith, e)))
    (λ (h : 385 ≤ k). let at : n - 1 ≡ k = omega (arith, e, size) in rw at at (last (omega (arith, e)) 0))
    (below-or-from k 385)
    ∙ sym (get_or-replicate 386 k 0 0 (omega (arith, size, e)))))
