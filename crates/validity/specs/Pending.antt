-- A commit against its slot's bitmap.
use Rattle.std.specs.Prelude.{ℕ, Bool, ◌&&◌, List, length, leb, ltb, eqb}
use Rattle.model_types.specs.declared.memory.SlotState.{SlotState}
use Rattle.model_types.specs.Memory.{is_precommitted}
use Rattle.model_types.specs.Pending.{stores_for}
use Rattle.model.specs.Rules.Stores.{changes}

-- d: the words at which the slot's bitmap differs from SAM
unfoldable pub changed_words : List ℕ → List ℕ → ℕ
changed_words sam tam = length (changes sam tam)

-- "a commit in hand belongs to a precommitted seat with d of at least 1 and stores due 3·d + 2; .. stores done are fewer
-- than stores due"
unfoldable pub commit_valid : SlotState → List ℕ → List ℕ → ℕ → ℕ → Bool
commit_valid state sam tam done due =
    is_precommitted state && leb 1 (changed_words sam tam) && eqb due (stores_for (changed_words sam tam)) && ltb done due
