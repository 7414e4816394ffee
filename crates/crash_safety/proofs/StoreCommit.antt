-- A store of a commit keeps the invariant. Every store but the commit point leaves what the disk stands for; the commit point
-- makes it the slot's bitmap, and the ledger's allocated set with it.
use Prim.Native.Nat.{ℕ, ◌+◌, ◌*◌, ◌≤◌, ◌<◌}
use native.Mathlib.Decide.{ℕ_discrete, dec_le}
use native.Mathlib.Nat.{not-le_of_lt, lt_of_not-le}
use native.Mathlib.Omega.{arith}
use mathlib.Core.Path.{◌≡◌, refl, sym, ap, ◌∙◌, subst}
use mathlib.Core.Bool.{Bool, true, false, cond}
use mathlib.Core.List.{List}
use lib.ListN.{length, take, drop, length-set}
use lib.Seq.{get_or-set_same, get_or-set_other}
use lib.Dec.{eqb}
use borrow.Author.Tests.{eq-eqb, ne_eqb}
use Rattle.bitmap.specs.Sizes.{slot_count}
use Rattle.bitmap.specs.Bits.{bit, IsBitmap}
use Rattle.bitmap.specs.Blocks.{member}
use Rattle.bitmap.specs.declared.Bitmap.{Bitmap}
use Rattle.model_types.specs.declared.memory.Memory.{Memory}
use Rattle.model_types.specs.declared.memory.Pending.{Pending}
use Rattle.model_types.specs.declared.memory.Pending.TheVariants.{Commit}
use Rattle.model.specs.Rules.Sizes.{disk_words}
use Rattle.model_types.specs.Memory.{slot_at, is_active, sam_bit, with_pending}
use Rattle.model.specs.Rules.Stores.{writes, commit_stores}
use Rattle.model.specs.Rules.Commit.{committed_sam, entries_of, changed_of, committed}
use Rattle.model.specs.Rules.Pending.{stores_done, stores_due, one_more_done, finished}
use Rattle.model.specs.Rules.Disk.{durable, image_matches}
use Rattle.model.specs.Rules.Calls.Open.{open_error}
use Rattle.model.specs.Rules.Calls.Store.{advanced}
use Rattle.model.proofs.Laws.Memory.Valid.{ValidParts}
use Rattle.model.proofs.Laws.Commit.Commit.{committed-bits}
use Rattle.model.proofs.Laws.Works.Pending.{CommitParts, precommitted-active, precommitted-below}
use Rattle.crash_safety.specs.Ledger.{Sets, no_sets, Ledger, sets_of, commits, counts_store, stores, with_counting, holders}
use Rattle.crash_safety.specs.World.{World, world_of}
use Rattle.crash_safety.proofs.Invariant.{Tied, Plain, Past, PendingTied, Related, Invariant, counting_of}
use Rattle.crash_safety.proofs.Committed.{committed-related}
use Rattle.crash_safety.proofs.Commit.{same-words-counted}
use Rattle.crash_safety.proofs.CommitPoint.{commits-tam, commits-holders}
use Rattle.crash_safety.proofs.CommitDisk.{disk_after, opens-after, stands-before, stands_after, next-disk, next_small}

-- the pending work does not enter what a commit makes
changed-pending : (memory : Memory) (s : ℕ) (p : Pending) → changed_of (with_pending memory p) s ≡ changed_of memory s
unfolding changed_of entries_of committed_sam
changed-pending memory s p = refl

sam-pending : (memory : Memory) (s : ℕ) (p : Pending) → committed_sam (with_pending memory p) s ≡ committed_sam memory s
unfolding committed_sam
sam-pending memory s p = refl

module _ (w : World) (s k due : ℕ) (i : Invariant w)
    (parts : ValidParts w.memory)
    (sam : IsBitmap w.memory.sam.words)
    (eight : length w.memory.slots ≡ slot_count)
    (commit : CommitParts w.memory s k due)
    (size : length w.disk ≡ disk_words)
    (matches : image_matches w.memory.blocks w.memory.sam.words w.disk k (commit_stores (entries_of w.memory s)) ≡ true) where
  -- d
  abbrev d : ℕ
  d = changed_of w.memory s

  abbrev stored : List ℕ
  stored = writes (take 1 (drop k (commit_stores (entries_of w.memory s)))) w.disk

  disk_is : stored ≡ disk_after w.memory w.disk s (k + 1)
  disk_is = next-disk w.memory w.disk s parts sam size k matches

  active : is_active (slot_at w.memory s).state ≡ true
  active = precommitted-active (slot_at w.memory s).state commit.precommitted

  below : s < slot_count
  below = precommitted-below w.memory s eight commit.precommitted

  -- the parts of the invariant that every store of a commit keeps in one way
  keeps : (memory : Memory) (ledger : Ledger)
      → ((b : ℕ) → bit (durable (disk_after w.memory w.disk s (k + 1))) b ≡ member b ledger.allocated)
      → ((b : ℕ) → holders ledger b ≤ 1)
      → length ledger.slots ≡ slot_count
      → Related memory ledger
      → Invariant (world_of memory stored ledger)
  keeps memory ledger kept holding slots related =
      record {
        small = next_small w.memory w.disk s parts sam size k i.small;
        opens = ap open_error disk_is ∙ opens-after w.memory w.disk s parts sam size (k + 1);
        kept = λ b. ap (λ (disk : List ℕ). bit (durable disk) b) disk_is ∙ kept b;
        one_holder = holding;
        slots = slots;
        related = λ _. related;
      }

  -- ---- one more store is done

  abbrev more : Memory
  more = with_pending w.memory (Commit s (k + 1) due)

  changed-more : changed_of more s ≡ d
  changed-more = changed-pending w.memory s (Commit s (k + 1) due)

  -- before the commit point
  before : k + 1 ≤ 2 * d → Plain w.memory w.ledger (counting_of s k)
      → Invariant (world_of more stored (with_counting w.ledger (counting_of s (k + 1))))
  unfolding holders
  before h plain =
      keeps more (with_counting w.ledger (counting_of s (k + 1)))
      (λ b. ap (λ (words : List ℕ). bit words b) (stands-before w.memory w.disk s parts sam size (k + 1) h) ∙ plain.finds b)
      i.one_holder
      i.slots
      (record {
        sam = sam;
        slots = eight;
        pending = (
          (λ _. record { finds = plain.finds; slots = plain.slots; counted = refl }),
          λ g. absurd (not-le_of_lt g (subst (λ (n : ℕ). k + 1 ≤ 2 * n) (sym changed-more) h)),
        );
      })

  -- at it and past it: the allocated set is what SAM becomes
  past : (ledger : Ledger) → 2 * d < k + 1 → Past w.memory ledger s
      → ((b : ℕ) → holders ledger b ≤ 1)
      → length ledger.slots ≡ slot_count
      → Invariant (world_of more stored ledger)
  past ledger h p holding slots =
      keeps more ledger
      (λ b. ap (λ (words : List ℕ). bit words b) (stands_after w.memory w.disk s parts sam size (k + 1) h) ∙ p.finds b)
      holding
      slots
      (record {
        sam = sam;
        slots = eight;
        pending = (
          (λ g. absurd (not-le_of_lt (subst (λ (n : ℕ). 2 * n < k + 1) (sym changed-more) h) g)),
          λ _. record {
            finds = λ b. ap (λ (map : Bitmap). bit map.words b) (sam-pending w.memory s (Commit s (k + 1) due)) ∙ p.finds b;
            slots = p.slots;
            own = p.own;
            uncounted = p.uncounted;
          },
        );
      })

  -- the commit point
  at-point : k ≡ 2 * d → Plain w.memory w.ledger (counting_of s k) → Invariant (world_of more stored (commits w.ledger s))
  unfolding commits
  at-point e plain =
      past (commits w.ledger s) (omega arith) reached
      (λ b. commits-holders w.ledger s b there (i.one_holder b))
      (length-set w.ledger.slots s no_sets ∙ i.slots)
    where
      there : s < length w.ledger.slots
      there = omega (arith, i.slots, below)

      reached : Past w.memory (commits w.ledger s) s
      reached =
          record {
            finds = λ b.
                committed-bits w.memory parts s active b
                ∙ sym (commits-tam w.memory w.ledger (counting_of s k) s active plain b);
            slots = λ t n.
                subst (Tied (sam_bit w.memory) (slot_at w.memory t)) (sym (get_or-set_other w.ledger.slots s t no_sets no_sets n))
                (plain.slots t);
            own = get_or-set_same w.ledger.slots s no_sets no_sets there;
            uncounted = refl;
          }

  -- what the ledger does with a store under count
  counted : Plain w.memory w.ledger (counting_of s k)
      → stores w.ledger w.ledger.counting
      ≡ cond (eqb (k + 1) (2 * d + 1)) (commits w.ledger s) (with_counting w.ledger (counting_of s (k + 1)))
  unfolding stores counts_store
  counted plain =
      ap (stores w.ledger) plain.counted
      ∙ ap
      (λ (n : ℕ). cond (eqb (k + 1) (2 * n + 1)) (commits w.ledger s) (with_counting w.ledger (counting_of s (k + 1))))
      (same-words-counted w.memory s (sets_of w.ledger s) parts sam active (plain.slots s))

  early : k ≤ 2 * d → Plain w.memory w.ledger (counting_of s k) → Invariant (world_of more stored (stores w.ledger w.ledger.counting))
  early h plain = subst (λ (l : Ledger). Invariant (world_of more stored l)) (sym (counted plain)) (go (ℕ_discrete k (2 * d)))
    where
      At : Bool → Type 0
      At t = Invariant (world_of more stored (cond t (commits w.ledger s) (with_counting w.ledger (counting_of s (k + 1)))))

      go : Dec (k ≡ 2 * d) → At (eqb (k + 1) (2 * d + 1))
      go (yes e) = subst At (sym (eq-eqb (k + 1) (2 * d + 1) (omega arith))) (at-point e plain)
      go (no n) = subst At (sym (ne_eqb (k + 1) (2 * d + 1) (λ e. n (omega arith)))) (before (omega (arith, n)) plain)

  -- ---- the last store

  last : 2 * d < k → Past w.memory w.ledger s → Invariant (world_of (committed w.memory s) stored w.ledger)
  unfolding member
  last h p =
      keeps (committed w.memory s) w.ledger
      (λ b. ap (λ (words : List ℕ). bit words b) (stands_after w.memory w.disk s parts sam size (k + 1) (omega arith)) ∙ p.finds b)
      i.one_holder
      i.slots
      (committed-related w.memory w.ledger s parts active eight below p.finds p.slots
      (λ b. ap (λ (sets : Sets). member b sets.taken) p.own)
      (λ b. ap (λ (sets : Sets). member b sets.freed) p.own)
      p.uncounted)

  late : 2 * d < k → Past w.memory w.ledger s
      → Invariant (world_of (cond (eqb (k + 1) due) (committed w.memory s) more) stored (stores w.ledger w.ledger.counting))
  unfolding stores
  late h p =
      subst (λ (l : Ledger). Invariant (world_of (cond (eqb (k + 1) due) (committed w.memory s) more) stored l))
      (sym (ap (stores w.ledger) p.uncounted))
      (go (eqb (k + 1) due))
    where
      go : (t : Bool) → Invariant (world_of (cond t (committed w.memory s) more) stored w.ledger)
      go true = last h p
      go false = past w.ledger (omega arith) p i.one_holder i.slots

  pub commit-store-keeps : PendingTied w.memory w.ledger (Commit s k due)
      → Invariant (world_of (advanced w.memory (Commit s k due)) stored (stores w.ledger w.ledger.counting))
  unfolding advanced stores_done stores_due one_more_done finished
  commit-store-keeps tied = go (dec_le k (2 * d))
    where
      At : Bool → Type 0
      At t = Invariant (world_of (cond t (committed w.memory s) more) stored (stores w.ledger w.ledger.counting))

      go : Dec (k ≤ 2 * d) → At (eqb (k + 1) due)
      go (yes h) =
          subst At (sym (ne_eqb (k + 1) due (λ e. omega (arith, e, h, commit.due_is, commit.some_changed)))) (early h (tied.0 h))
      go (no n) = late (lt_of_not-le n) (tied.1 (lt_of_not-le n))
