-- Format. "Format writes all 386 words in one call: m, then zeros."
use Rattle.std.specs.Prelude.{ℕ, ◌-◌, List, [], ◌∷◌, replicate}
use Rattle.std.proofs.Math.Option.{Option}
use Rattle.model.specs.Types.{Error, DiskLength, BlocksRange, Answer, ⊤}
use Rattle.model.specs.Rules.Sizes.{disk_words}
use Rattle.model.specs.Rules.First.{first, ◌⇒◌, unless_refused}
use Rattle.model_types.specs.Answers.{answer}
use Rattle.model.specs.Rules.Causes.{disk_length_wrong, blocks_out_of_range}

unfoldable pub format_error : List ℕ → ℕ → Option Error
format_error disk blocks =
    first
    (disk_length_wrong disk ⇒ DiskLength
    ∷ blocks_out_of_range blocks ⇒ BlocksRange
    ∷ [])

-- m, then zeros
unfoldable pub formatted : ℕ → List ℕ
formatted blocks = blocks ∷ replicate (disk_words - 1) 0

unfoldable pub format_answer : List ℕ → ℕ → Answer ⊤
format_answer disk blocks = answer (format_error disk blocks) tt

unfoldable pub format_disk : List ℕ → ℕ → List ℕ
format_disk disk blocks = unless_refused (format_error disk blocks) (formatted blocks) disk
