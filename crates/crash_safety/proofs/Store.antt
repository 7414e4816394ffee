-- Store keeps the invariant.
use mathlib.Core.Path.{◌≡◌, sym, ◌∙◌}
use mathlib.Core.Bool.{true, false, true≢false}
use lib.ListN.{length}
use Rattle.model_types.specs.declared.memory.Pending.{Pending}
use Rattle.model_types.specs.declared.memory.Pending.TheVariants.{Nothing, Commit, Recovery}
use Rattle.model.specs.Rules.Sizes.{disk_words}
use Rattle.model.specs.Rules.Stores.{checkpoint_stores}
use Rattle.model.specs.Rules.Commit.{entries_of}
use Rattle.model_types.specs.Pending.{is_nothing}
use Rattle.model.specs.Rules.Pending.{stores_done, new_sam}
use Rattle.model.specs.Rules.Valid.{valid, pending_valid}
use Rattle.model.specs.Rules.Disk.{stores_of, next_disk, disk_matches}
use Rattle.model.specs.Rules.Calls.Store.{advanced, next_stored}
use Rattle.model.proofs.Laws.Calls.Accepted.{StoreAccepted}
use Rattle.model.proofs.Laws.Memory.Valid.{valid-parts}
use Rattle.model.proofs.Laws.Works.Pending.{commit-parts}
use Rattle.model.proofs.Laws.Disk.Matching.{commit-matches, recovery-matches, matching-parts}
use Rattle.crash_safety.specs.Ledger.{stores}
use Rattle.crash_safety.specs.World.{World, world_of}
use Rattle.crash_safety.proofs.Invariant.{PendingTied, Invariant}
use Rattle.crash_safety.proofs.StoreCommit.{commit-store-keeps}
use Rattle.crash_safety.proofs.StoreRecovery.{recovery-store-keeps}

-- a store by the pending work
by-pending : (w : World) → Invariant w → valid w.memory ≡ true → length w.disk ≡ disk_words
    → (p : Pending)
    → is_nothing p ≡ false
    → pending_valid w.memory p ≡ true
    → disk_matches w.memory w.disk p ≡ true
    → PendingTied w.memory w.ledger p
    → Invariant
    (world_of
    (advanced w.memory p)
    (next_disk w.memory.sam.words (new_sam w.memory p) w.disk p)
    (stores w.ledger w.ledger.counting))
unfolding is_nothing next_disk stores_of new_sam entries_of stores_done checkpoint_stores
by-pending w i v size Nothing e valid-pending matching tied = absurd (true≢false e)
by-pending w i v size (Commit s k due) e valid-pending matching tied =
    let related = i.related v in
    commit-store-keeps w s k due i (valid-parts w.memory v) related.sam related.slots
    (commit-parts w.memory s k due valid-pending) size (sym (commit-matches w.memory w.disk s k due) ∙ matching) tied
by-pending w i v size (Recovery k due) e valid-pending matching tied =
    let related = i.related v in
    recovery-store-keeps w k due i related.sam related.slots (matching-parts w.memory.blocks w.memory.sam.words w.disk k due (sym (recovery-matches w.memory w.disk k due) ∙ matching)) tied

pub store_keeps : (w : World) → Invariant w → StoreAccepted w.memory w.disk
    → Invariant
    (world_of (advanced w.memory w.memory.pending) (next_stored w.memory w.disk) (stores w.ledger w.ledger.counting))
unfolding next_stored
store_keeps w i a =
    by-pending w i a.is_valid a.size w.memory.pending a.pending (valid-parts w.memory a.is_valid).pending_fits a.matches
    (i.related a.is_valid).pending
