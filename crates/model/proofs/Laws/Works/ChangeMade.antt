-- A change that a call made: the memory after it is valid, it touches no more blocks than it is told to, and it is a revoke where the slot was
-- precommitted.
use Prim.Native.Nat.{ℕ, ◌<◌}
use mathlib.Core.Path.{◌≡◌, refl, sym, ap, ◌∙◌}
use mathlib.Core.Bool.{Bool, true, false, cond, true≢false}
use lib.ListN.{length}
use lib.Dec.{eqb}
use Rattle.model.specs.Types.{Precommitted, Nothing, Memory}
use Rattle.model_types.specs.Memory.{slot_at, is_active, is_precommitted}
use Rattle.model.specs.Rules.Work.{Change, start_change, precommit_change, drop_change, revoke_change, grant_change, free_change, reserve_change, bearing, blocks_touched, changed}
use Rattle.model.proofs.Laws.Calls.Accepted.{Ready}
use Rattle.model.proofs.Laws.Memory.Valid.{ValidParts}
use Rattle.model.proofs.Laws.Memory.Untouched.{started-valid, precommitted-valid, reserving-valid}
use Rattle.model.proofs.Laws.Memory.Taking.{grant-valid, freeing-valid}
use Rattle.model.proofs.Laws.Memory.Rollback.{rolled-back-valid}
use Rattle.model.proofs.Laws.Touched.TouchedBy.{Touches, started-touches, taking-touches, freeing-touches, precommitting-touches, rolled-back-touches, reserving-touches}
use Rattle.model.proofs.Laws.Works.Work.{ChangeMade}

pub record Leaves (change : Change) (memory : Memory) (s : ℕ) : Type 0 where
  pub valid : ValidParts (changed change memory s)
  pub touches : (t : ℕ) → Touches memory (changed change memory s) t (cond (eqb s t) (blocks_touched change) 0)
  pub spares : (slot_at memory s).state ≡ Precommitted → (bearing change).revokes ≡ true

module _ (memory : Memory) (parts : ValidParts memory) (s : ℕ) (ready : Ready memory s) (h : s < length memory.slots) where
  abbrev Told : Change → Type 0
  Told change =
      ValidParts (changed change memory s)
      × ((t : ℕ) → Touches memory (changed change memory s) t (cond (eqb s t) (blocks_touched change) 0))
      × ((slot_at memory s).state ≡ Precommitted → (bearing change).revokes ≡ true)

  -- a slot that isn't active, or isn't precommitted
  idle-else : {t : Bool} → is_active (slot_at memory s).state ≡ false → (slot_at memory s).state ≡ Precommitted → t ≡ true
  idle-else fails e = absurd (true≢false (sym (ap is_active e) ∙ fails))

  open-else : {t : Bool} → is_precommitted (slot_at memory s).state ≡ false → (slot_at memory s).state ≡ Precommitted → t ≡ true
  open-else fails e = absurd (true≢false (sym (ap is_precommitted e) ∙ fails))

  n : memory.pending ≡ Nothing
  n = ready.none_pending

  told : (change : Change) → ChangeMade change memory s → Told change
  unfolding changed blocks_touched bearing
  told start_change a = (started-valid memory s parts n h a.idle, (λ t. started-touches memory s t h), idle-else a.idle)
  told precommit_change a = (precommitted-valid memory s parts n h a.active, (λ t. precommitting-touches memory s t h a.active), open-else a.not_precommitted)
  told drop_change a = (rolled-back-valid memory parts s n h ready.below a.active, (λ t. rolled-back-touches memory s t h), open-else a.not_precommitted)
  told revoke_change a = (rolled-back-valid memory parts s n h ready.below a.active, (λ t. rolled-back-touches memory s t h), λ _. refl)
  told (grant_change blocks) g = (grant-valid memory s blocks g.available parts n h g.active g.once g.spares, (λ t. taking-touches memory s t h parts blocks), open-else g.not_precommitted)
  told (free_change block) a = (freeing-valid memory s block parts n h a.active a.allocated a.unfreed, (λ t. freeing-touches memory s t h parts block), open-else a.not_precommitted)
  told (reserve_change reservation) a = (reserving-valid memory s reservation parts n a.fits, (λ t. reserving-touches memory s t h reservation), idle-else a.idle)

  pub change-leaves : (change : Change) → ChangeMade change memory s → Leaves change memory s
  change-leaves change a = let k = told change a in record { valid = k.0; touches = k.1; spares = k.2 }
