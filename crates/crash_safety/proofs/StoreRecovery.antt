-- A store of a recovery keeps the invariant: it leaves what the disk stands for.
use Prim.Native.Nat.{ℕ, ◌+◌, ◌≤◌, ◌<◌}
use native.Mathlib.Decide.{dec_le}
use native.Mathlib.Nat.{lt_of_not-le}
use mathlib.Core.Path.{◌≡◌, sym, ap, ◌∙◌, subst}
use mathlib.Core.Bool.{Bool, true, false, cond}
use mathlib.Core.Option.{none}
use mathlib.Core.List.{List}
use lib.ListN.{length, take, drop}
use lib.Dec.{eqb}
use Rattle.bitmap.specs.Sizes.{slot_count}
use Rattle.bitmap.specs.Bits.{bit, IsBitmap}
use Rattle.bitmap.specs.Blocks.{member}
use Rattle.model_types.specs.declared.memory.Pending.TheVariants.{Nothing, Recovery}
use Rattle.model_types.specs.Memory.{with_pending}
use Rattle.model.specs.Rules.Pending.{stores_done, stores_due, one_more_done, finished}
use Rattle.model.specs.Rules.Stores.{Store, closing_stores, checkpoint_with}
use Rattle.model.specs.Rules.Disk.{disk_bitmap, log_length, log_entries, durable}
use Rattle.model.specs.Rules.Calls.Open.{open_error}
use Rattle.model.specs.Rules.Calls.Store.{advanced}
use Rattle.model.proofs.Laws.Disk.Matching.{RecoveryMatches}
use Rattle.model.proofs.Laws.Disk.Closing.{closes}
use Rattle.model.proofs.Laws.Disk.RecoveryLog.{checkpoint_next, checkpointed-opens, checkpointed-durable, closing-opens, closing-durable, rewritten-durable}
use Rattle.crash_safety.specs.Ledger.{Ledger, stores}
use Rattle.crash_safety.specs.World.{World, world_of}
use Rattle.crash_safety.proofs.Invariant.{Plain, Related, Invariant}
use Rattle.crash_safety.proofs.Small.{writes-small, take-small, drop-small, checkpoint-small, closing-small, log-entries-small}

module _ (w : World) (k due : ℕ) (i : Invariant w)
    (sam : IsBitmap w.memory.sam.words)
    (eight : length w.memory.slots ≡ slot_count)
    (m : RecoveryMatches w.memory.blocks w.memory.sam.words w.disk k due)
    (plain : Plain w.memory w.ledger none) where
  abbrev stored : List ℕ
  stored = checkpoint_next closing_stores w.disk k

  -- the logged words are written, or all are and the recovery is closed
  opens_kept : (open_error stored ≡ none) × ((b : ℕ) → bit (durable stored) b ≡ member b w.ledger.allocated)
  opens_kept = go (dec_le (log_length w.disk) k)
    where
      go : Dec (log_length w.disk ≤ k) → (open_error stored ≡ none) × ((b : ℕ) → bit (durable stored) b ≡ member b w.ledger.allocated)
      go (yes h) =
          let stands : durable w.disk ≡ disk_bitmap w.disk = rewritten-durable closing_stores w.disk i.opens _ _ k due h m in (
            closing-opens closing_stores w.disk i.opens k h closes,
            λ b.
                ap (λ (words : List ℕ). bit words b) (closing-durable closing_stores w.disk i.opens k h closes stands ∙ sym stands) ∙ i.kept b,
          )
      go (no n) =
          let h : k < log_length w.disk = lt_of_not-le n in (
            checkpointed-opens closing_stores w.disk i.opens k h,
            λ b. ap (λ (words : List ℕ). bit words b) (checkpointed-durable closing_stores w.disk i.opens k h) ∙ i.kept b,
          )

  related : (t : Bool) → Related (cond t (with_pending w.memory Nothing) (with_pending w.memory (Recovery (k + 1) due))) w.ledger
  related true = record { sam = sam; slots = eight; pending = record { finds = plain.finds; slots = plain.slots; counted = plain.counted } }
  related false = record { sam = sam; slots = eight; pending = record { finds = plain.finds; slots = plain.slots; counted = plain.counted } }

  pub recovery-store-keeps : Invariant (world_of (advanced w.memory (Recovery k due)) stored (stores w.ledger w.ledger.counting))
  unfolding advanced stores_done stores_due one_more_done finished stores
  recovery-store-keeps =
      subst (λ (l : Ledger). Invariant (world_of (advanced w.memory (Recovery k due)) stored l)) (sym (ap (stores w.ledger) plain.counted))
      (record {
        small =
            writes-small (take 1 (drop k recovery)) w.disk
            (take-small 1 (drop k recovery)
            (drop-small k recovery (checkpoint-small closing_stores (log_entries w.disk) closing-small (log-entries-small w.disk i.small))))
            i.small;
        opens = opens_kept.0;
        kept = opens_kept.1;
        one_holder = i.one_holder;
        slots = i.slots;
        related = λ _. related (eqb (k + 1) due);
      })
    where
      recovery : List Store
      recovery = checkpoint_with closing_stores (log_entries w.disk)
