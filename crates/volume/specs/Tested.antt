-- A disk tested by the causes of open.
use Rattle.std.specs.Prelude.{◌≡◌, List, ℕ, Result, Ok, Err}
use Rattle.std.proofs.Math.Option.{none, some}
use Rattle.std.proofs.Common.{Bor}
use Rattle.model_types.specs.declared.error.Error.{Error}
use Rattle.model.specs.Rules.Calls.Open.{open_error}

-- its words where none holds, and else the first that does
abbrev pub Tested : List ℕ → Result (Bor (List ℕ)) Error → Type 0
Tested disk (Ok words) = (open_error disk ≡ none) × (words.now ≡ disk)
Tested disk (Err error) = open_error disk ≡ some error
