-- What the two theorems say, one by one: each of the world after any list of calls on any formatted disk.
use Prim.Native.Nat.{ℕ, ◌*◌, ◌≤◌}
use mathlib.Core.Path.{◌≡◌, refl, sym, ap, ◌∙◌}
use mathlib.Core.Bool.{Bool, true, false, cond}
use mathlib.Core.Option.{Option, none}
use mathlib.Core.List.{List, ◌++◌}
use lib.ListN.{length, take, drop}
use lib.Dec.{ltb}
use borrow.Author.Tests.{ltb-true, ltb-false}
use Rattle.bitmap.specs.Sizes.{max_blocks}
use Rattle.bitmap.specs.Bits.{bit}
use Rattle.bitmap.specs.Blocks.{member}
use Rattle.model_types.specs.declared.error.Error.{Error}
use Rattle.model_types.specs.declared.memory.Memory.{Memory}
use Rattle.model_types.specs.declared.memory.Pending.{Pending}
use Rattle.model_types.specs.declared.memory.Pending.TheVariants.{Nothing, Commit, Recovery}
use Rattle.model.specs.Rules.Sizes.{disk_words}
use Rattle.model_types.specs.Memory.{slot_at, sam_bit, tam_bit}
use Rattle.model.specs.Rules.Commit.{changed_of}
use Rattle.model.specs.Rules.Valid.{pending_valid}
use Rattle.model.specs.Rules.First.{unless_refused}
use Rattle.model.specs.Rules.Calls.Format.{format_disk}
use Rattle.model.specs.Rules.Calls.Open.{open_memory}
use Rattle.model.specs.Rules.Calls.Allocate.{allocate_error, first_met, allocate_list}
use Rattle.model.specs.Rules.Calls.AllocateExtent.{allocate_extent_error, nearest_extent, allocate_extent_list}
use Rattle.model.specs.Rules.Outcome.{Call, outcome, crash_call}
use Rattle.model.proofs.Laws.Memory.Valid.{ValidParts, valid-parts}
use Rattle.model.proofs.Laws.Commit.Commit.{committed-bits}
use Rattle.model.proofs.Laws.Works.Pending.{commit-parts, precommitted-active}
use Rattle.model.proofs.Laws.Memory.Granting.{Grants, allocate-grants, allocate-extent-grants}
use Rattle.crash_safety.specs.Ledger.{enter_all, Ledger, no_sets, sets_of, crashed, holders, enter, entered}
use Rattle.crash_safety.specs.World.{World, begin, events, step, run, Without}
use Rattle.crash_safety.specs.InOrder.{InUse, WorkCompletes}
use Rattle.crash_safety.proofs.Invariant.{PendingTied, Invariant}
use Rattle.crash_safety.proofs.Touching.{plain}
use Rattle.crash_safety.proofs.Granting.{unheld}
use Rattle.crash_safety.proofs.Works.{listed}
use Rattle.crash_safety.proofs.Holders.{crashed-sets}
use Rattle.crash_safety.proofs.Keeps.{step_keeps, run-keeps, begins-formatted}
use Rattle.crash_safety.proofs.Completion.{completes}
use Rattle.crash_safety.proofs.Theorem.{safe, crash-safe}
use Rattle.crash_safety.proofs.Recovering.{begins_pending, crash-settles, run_settled}

-- whether an open of this disk finds the block allocated
abbrev pub found : List ℕ → ℕ → Bool
found disk b = bit (open_memory disk).sam.words b

-- what the memory says of a block that is durable: SAM's bit, and from the commit point on, the store 2·d + 1, the bit of the
-- committing slot
abbrev pub durable_bit : Memory → Pending → ℕ → Bool
durable_bit memory Nothing b = sam_bit memory b
durable_bit memory (Recovery done due) b = sam_bit memory b
durable_bit memory (Commit s done due) b = cond (ltb (2 * changed_of memory s) done) (tam_bit (slot_at memory s) b) (sam_bit memory b)

by-pending : (memory : Memory) (ledger : Ledger) → ValidParts memory
    → (p : Pending) → pending_valid memory p ≡ true → PendingTied memory ledger p
    → (b : ℕ) → member b ledger.allocated ≡ durable_bit memory p b
by-pending memory ledger parts Nothing v tied b = sym (tied.finds b)
by-pending memory ledger parts (Recovery done due) v tied b = sym (tied.finds b)
by-pending memory ledger parts (Commit s done due) v tied b = go (ltb (2 * changed_of memory s) done) refl
  where
    go : (t : Bool) → ltb (2 * changed_of memory s) done ≡ t → member b ledger.allocated ≡ cond t (tam_bit (slot_at memory s) b) (sam_bit memory b)
    go true e =
        sym ((tied.1 (ltb-true (2 * changed_of memory s) done e)).finds b)
        ∙ committed-bits memory parts s (precommitted-active (slot_at memory s).state (commit-parts memory s done due v).precommitted) b
    go false e = sym ((tied.0 (ltb-false (2 * changed_of memory s) done e)).finds b)

module _ (blocks : ℕ) (some_blocks : 1 ≤ blocks) (few : blocks ≤ max_blocks) (disk : List ℕ) (size : length disk ≡ disk_words) (calls : List Call) where
  abbrev w : World
  w = run calls (begin (format_disk disk blocks))

  reached : Invariant w
  reached = run-keeps calls (begin (format_disk disk blocks)) (begins-formatted blocks some_blocks few disk size)

  finds : (b : ℕ) → found w.disk b ≡ member b w.ledger.allocated
  finds = (crash-safe blocks some_blocks few disk size calls).finds

  -- No block is ever granted to two holders:
  pub never-two-holders : (b : ℕ) → holders w.ledger b ≤ 1
  never-two-holders = (crash-safe blocks some_blocks few disk size calls).one_holder

  -- a block that is listed had none,
  grant-unheld : (s count : ℕ) (blocks list : List ℕ) (error : Option Error)
      → Grants w.memory s count blocks
      → error ≡ none
      → (b : ℕ)
      → member b (take count (unless_refused error (blocks ++ drop count list) list)) ≡ true
      → holders w.ledger b ≡ 0
  grant-unheld s count blocks list error g e b m =
      unheld w.memory w.ledger b (valid-parts w.memory g.ready.is_valid) (plain w s reached g.ready)
      (g.available b (sym (ap (member b) (listed error count blocks list e g.size)) ∙ m))

  -- by an allocate
  pub granted-unheld : (s count : ℕ) (list : List ℕ)
      → allocate_error w.memory s count list ≡ none
      → (b : ℕ)
      → member b (take count (allocate_list w.memory s count list)) ≡ true
      → holders w.ledger b ≡ 0
  unfolding allocate_list
  granted-unheld s count list e =
      grant-unheld s count (first_met w.memory count) list (allocate_error w.memory s count list) (allocate-grants w.memory s count list e) e

  -- or by an allocate extent.
  pub extent-unheld : (s count near : ℕ) (list : List ℕ)
      → allocate_extent_error w.memory s count near list ≡ none
      → (b : ℕ)
      → member b (take count (allocate_extent_list w.memory s count near list)) ≡ true
      → holders w.ledger b ≡ 0
  unfolding allocate_extent_list
  extent-unheld s count near list e =
      grant-unheld s count (nearest_extent w.memory count near) list (allocate_extent_error w.memory s count near list)
      (allocate-extent-grants w.memory s count near list e) e

  -- A transaction is durable exactly from its commit point on: were the power to fail now, an open would find this.
  pub durable-from-commit-point : InUse w → (b : ℕ) → found w.disk b ≡ durable_bit w.memory w.memory.pending b
  durable-from-commit-point c b =
      let parts = valid-parts w.memory c.is_valid in
      let related = reached.related c.is_valid in
      finds b ∙ by-pending w.memory w.ledger parts w.memory.pending parts.pending_fits related.pending b

  -- A crash loses every unfinished transaction
  pub crash-loses-unfinished : (s : ℕ) → sets_of (step crash_call w).ledger s ≡ no_sets
  unfolding step events enter_all outcome enter entered crashed
  crash-loses-unfinished s = crashed-sets w.ledger.slots s

  -- and nothing else: the next open finds the allocated set as it was before the crash.
  pub crash-keeps-allocated : (b : ℕ) → found (step crash_call w).disk b ≡ member b w.ledger.allocated
  unfolding step outcome
  crash-keeps-allocated b = finds b

  -- A second crash inside a recovery is harmless, any number of times: after a crash come opens, stores, crashes and whatever
  -- else but a commit that is accepted, in any number and order, and an open finds the same.
  pub recovery-again : (later : List Call) → Without begins_pending later (step crash_call w) → (b : ℕ) → found (run later (step crash_call w)).disk b ≡ found w.disk b
  unfolding step
  recovery-again later r b =
      let after : World = step crash_call w in
      (safe (run later after) (run-keeps later after (step_keeps crash_call w reached))).finds b
      ∙ ap (member b) (run_settled later after w.ledger.allocated r (crash-settles w.ledger.allocated w refl)).same
      ∙ sym (finds b)

-- In use a commit, or a recovery, can be brought to its end.
pub work-completes : WorkCompletes
work-completes blocks some_blocks few disk size calls c = completes w (reached blocks some_blocks few disk size calls) c
  where
    w : World
    w = run calls (begin (format_disk disk blocks))
