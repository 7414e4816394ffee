-- What is lent of the words that are kept.
use Rattle.std.specs.Prelude.{ℕ, List, take}
use Rattle.inspect_state.specs.declared.lent.Lent.{Lent}

-- the words lent: so many, from the first on
abbrev pub words_lent : {n : ℕ} → Lent n → List ℕ
words_lent lent = take lent.len lent.words
