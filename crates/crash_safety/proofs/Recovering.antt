-- Works of a recovery, of which none begins other pending work, and that the ledger's allocated set is the same after any number of them.
use Prim.Native.Nat.{ℕ, zero, suc}
use mathlib.Core.Path.{◌≡◌, refl, sym, ◌∙◌, subst}
use mathlib.Core.Bool.{Bool, true, false, cond, true≢false}
use mathlib.Core.Option.{Option, none}
use mathlib.Core.List.{List}
use lib.ListN.{replicate}
use lib.Dec.{eqb}
use Rattle.model_types.specs.declared.memory.Pending.{Pending}
use Rattle.model.specs.Rules.Outcome.{Call, outcome, open_call, store_call, crash_call}
use Rattle.model.specs.Rules.Work.{Work, open_work, crash_work, store_work, begin_work, change_work}
use Rattle.model.proofs.Laws.Works.Work.{Made, Fails}
use Rattle.model.proofs.Laws.Works.Progress.{either}
use Rattle.crash_safety.specs.Ledger.{Ledger, Counting, crashed, enter, entered, enter_all, stores}
use Rattle.crash_safety.specs.World.{World, events, step, run, Without}
use Rattle.crash_safety.proofs.Works.{told, change-told, after, by-failing}

-- whether pending work begins, which a commit does: a recovery has opens, stores, crashes, and what else comes in between
unfoldable pub begins_pending : Work → Pending → Bool
begins_pending open_work pending = false
begins_pending crash_work pending = false
begins_pending store_work pending = false
begins_pending (begin_work new) pending = true
begins_pending (change_work s change) pending = false

-- no commit is under count, and the allocated set is this one
pub record Settled (allocated : List ℕ) (ledger : Ledger) : Type 0 where
  pub same : ledger.allocated ≡ allocated
  pub uncounted : ledger.counting ≡ none

module _ (allocated : List ℕ) (w : World) where
  -- a crash settles whatever was under count
  pub crash-settles : w.ledger.allocated ≡ allocated → Settled allocated (step crash_call w).ledger
  unfolding step events enter_all outcome enter entered crashed
  crash-settles e = record { same = e; uncounted = refl }

  -- and so does an open, which is a crash first
  pub open-settles : w.ledger.allocated ≡ allocated → Settled allocated (step open_call w).ledger
  unfolding step events enter_all outcome enter entered crashed
  open-settles e =
      either (Settled allocated) (eqb (outcome open_call w.memory w.disk).number 0)
      (record { same = e; uncounted = refl }) (record { same = e; uncounted = refl })

  -- a store leaves it so
  store-settled : Settled allocated w.ledger → Settled allocated (step store_call w).ledger
  unfolding step events enter_all outcome enter entered stores
  store-settled s =
      subst (λ (c : Option Counting). Settled allocated (cond (eqb (outcome store_call w.memory w.disk).number 0) (stores w.ledger c) w.ledger))
      (sym s.uncounted) (either (Settled allocated) (eqb (outcome store_call w.memory w.disk).number 0) s s)

pub stores-settled : (n : ℕ) (w : World) (allocated : List ℕ) → Settled allocated w.ledger → Settled allocated (run (replicate n store_call) w).ledger
unfolding run
stores-settled zero w allocated s = s
stores-settled (suc n) w allocated s = stores-settled n (step store_call w) allocated (store-settled allocated w s)

work-settled : (allocated : List ℕ) (w : World) (call : Call) (new : Work) → Made call new w.memory w.disk → Fails begins_pending new w.memory
    → Settled allocated w.ledger → Settled allocated (after new w).ledger
unfolding begins_pending told entered crashed stores
work-settled allocated w call open_work m f s = record { same = s.same; uncounted = refl }
work-settled allocated w call crash_work m f s = record { same = s.same; uncounted = refl }
work-settled allocated w call store_work m f s = subst (λ (c : Option Counting). Settled allocated (stores w.ledger c)) (sym s.uncounted) s
work-settled allocated w call (begin_work new) m f s = absurd (true≢false f)
work-settled allocated w call (change_work t change) m f s =
    let only = change-told w.ledger t change in
    record { same = only.allocated ∙ s.same; uncounted = only.counting ∙ s.uncounted }

pub run_settled : (calls : List Call) (w : World) (allocated : List ℕ) → Without begins_pending calls w → Settled allocated w.ledger
    → Settled allocated (run calls w).ledger
run_settled calls w allocated = by-failing (λ v. Settled allocated v.ledger) begins_pending (work-settled allocated) calls w
