-- The counts of status as they are printed.
use Rattle.std.specs.Prelude.{ℕ, ◌++◌, List, codes, decimal}
use Rattle.model_types.specs.declared.answer.Counts.{Counts}

-- all six, by name
abbrev pub counts_text : Counts → List ℕ
counts_text counts =
    codes "allocated=" ++ (decimal counts.allocated
    ++ (codes " available=" ++ (decimal counts.available
    ++ (codes " allocating=" ++ (decimal counts.allocating
    ++ (codes " freeing=" ++ (decimal counts.freeing
    ++ (codes " held=" ++ (decimal counts.held
    ++ (codes " active=" ++ decimal counts.active))))))))))
