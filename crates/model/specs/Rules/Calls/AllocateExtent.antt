-- Allocate extent. Document 02, job 4: "n adjoining grantable blocks (1 to 64) whose first block is nearest to a named block, the
-- lower one at equal distance. Its numbers are listed as allocate lists them, rising. A run counts as an allocation of each block
-- in it". Job 6: "A run from Job 4 sets it too" (the block to be searched first), "and is still listed rising."
use Rattle.std.specs.Prelude.{ℕ, List, ◌∷◌, ◌++◌, drop, get_or}
use Rattle.std.proofs.Math.Option.{Option}
use Rattle.bitmap.specs.Extents.{adjoining, nearest}
use Rattle.model.specs.Types.{Error, Memory, NoExtent, Answer}
use Rattle.model.specs.Rules.First.{first, ◌⇒◌, unless_refused}
use Rattle.model_types.specs.Answers.{answer}
use Rattle.model.specs.Rules.Reserves.{others_reserved}
use Rattle.model.specs.Rules.Causes.{of_available, extent_starts, no_extent}
use Rattle.model.specs.Rules.CauseLists.{open_causes, of_slot, spare_causes, request_causes}
use Rattle.model.specs.Rules.Calls.Allocate.{taking}

-- "Its causes are allocate's without 17, then 18 for the named block. Refused: 22 if no such run exists, after 18." Job 7: 24 "last, for
-- runs .. too". So 1, 8, 10, 12, 13; 15, 16, 18; 22; 24
unfoldable pub allocate_extent_error : Memory → ℕ → ℕ → ℕ → List ℕ → Option Error
allocate_extent_error memory s count near list =
    first
    (of_slot open_causes memory s
    ++ request_causes memory.blocks count near list
    ++ (no_extent memory count ⇒ NoExtent ∷ of_available spare_causes memory count (others_reserved memory.reserves s)))

-- the extent of so many available blocks that starts nearest to the named block, rising
unfoldable pub nearest_extent : Memory → ℕ → ℕ → List ℕ
nearest_extent memory count near = adjoining (nearest near memory.blocks (extent_starts memory count)) count

unfoldable pub allocate_extent_answer : Memory → ℕ → ℕ → ℕ → List ℕ → Answer ℕ
allocate_extent_answer memory s count near list =
    answer (allocate_extent_error memory s count near list) (get_or (nearest_extent memory count near) 0 0)

unfoldable pub allocate_extent_memory : Memory → ℕ → ℕ → ℕ → List ℕ → Memory
allocate_extent_memory memory s count near list =
    unless_refused (allocate_extent_error memory s count near list) (taking memory s (nearest_extent memory count near)) memory

unfoldable pub allocate_extent_list : Memory → ℕ → ℕ → ℕ → List ℕ → List ℕ
allocate_extent_list memory s count near list =
    unless_refused (allocate_extent_error memory s count near list) (nearest_extent memory count near ++ drop count list) list
