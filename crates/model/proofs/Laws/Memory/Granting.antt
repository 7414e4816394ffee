-- What an accepted allocate grants, of an extent or not: as many available blocks as are asked, to an active slot.
use Prim.Native.Nat.{ℕ}
use mathlib.Core.Path.{◌≡◌}
use mathlib.Core.Bool.{true, false}
use mathlib.Core.Option.{none}
use mathlib.Core.List.{List}
use lib.ListN.{length}
use Rattle.model.specs.Types.{Memory}
use Rattle.model_types.specs.Memory.{slot_at, is_active, is_precommitted}
use Rattle.model.specs.Rules.Calls.Allocate.{allocate_error, first_met}
use Rattle.model.specs.Rules.Calls.AllocateExtent.{allocate_extent_error, nearest_extent}
use Rattle.bitmap.proofs.Laws.Blocks.{Distinct}
use Rattle.model.proofs.Laws.Memory.Reserves.{Spares}
use Rattle.model.proofs.Laws.Calls.Accepted.{Ready, allocate-accepted, allocate-extent-accepted}
use Rattle.model.proofs.Laws.Memory.Taking.{AllAvailable, met-available, met-distinct, met-length}
use Rattle.model.proofs.Laws.Memory.Valid.{valid-parts}
use Rattle.model.proofs.Laws.Promises.Extents.{nearest-length, nearest-distinct, nearest-extent-available}

pub record Grants (memory : Memory) (s count : ℕ) (blocks : List ℕ) : Type 0 where
  pub ready : Ready memory s
  pub active : is_active (slot_at memory s).state ≡ true
  pub not_precommitted : is_precommitted (slot_at memory s).state ≡ false
  pub available : AllAvailable memory blocks
  pub size : length blocks ≡ count
  pub once : Distinct blocks
  pub spares : Spares memory s count

pub allocate-grants : (memory : Memory) (s count : ℕ) (list : List ℕ) → allocate_error memory s count list ≡ none
    → Grants memory s count (first_met memory count)
allocate-grants memory s count list e =
    let a = allocate-accepted memory s count list e in
    let below = (valid-parts memory a.ready.is_valid).cursor_below in
    record {
      ready = a.ready;
      active = a.active;
      not_precommitted = a.not_precommitted;
      available = met-available memory count below;
      size = met-length memory count below a.enough;
      once = met-distinct memory count;
      spares = a.spares;
    }

pub allocate-extent-grants : (memory : Memory) (s count near : ℕ) (list : List ℕ) → allocate_extent_error memory s count near list ≡ none
    → Grants memory s count (nearest_extent memory count near)
allocate-extent-grants memory s count near list e =
    let a = allocate-extent-accepted memory s count near list e in
    record {
      ready = a.ready;
      active = a.active;
      not_precommitted = a.not_precommitted;
      available = nearest-extent-available memory count near a.found;
      size = nearest-length memory count near;
      once = nearest-distinct memory count near;
      spares = a.spares;
    }
