-- Every work keeps the invariant, so every call does, and it holds at the beginning.
use Prim.Native.Nat.{ℕ, zero, suc, ◌-◌, ◌≤◌}
use native.Mathlib.Omega.{arith}
use mathlib.Core.Path.{◌≡◌, refl, sym, ap, ◌∙◌, subst}
use mathlib.Core.Bool.{Bool, false≢true}
use mathlib.Core.Option.{Option, none}
use mathlib.Core.List.{List}
use lib.ListN.{length, replicate}
use Rattle.bitmap.specs.Sizes.{max_blocks, bitmap_words}
use Rattle.model.specs.Rules.Sizes.{disk_words, tail_words}
use Rattle.bitmap.specs.Bits.{bit}
use Rattle.bitmap.specs.Blocks.{member}
use Rattle.bitmap.proofs.Laws.Bits.{bit-empty}
use Rattle.model_types.specs.declared.error.Error.{Error}
use Rattle.model_types.specs.declared.memory.Memory.{Memory}
use Rattle.model_types.specs.declared.memory.Pending.{Pending}
use Rattle.model_types.specs.Memory.{zero_memory}
use Rattle.model.specs.Rules.First.{unless_refused}
use Rattle.model.specs.Rules.Pending.{begun}
use Rattle.model.specs.Rules.Disk.{durable}
use Rattle.crash_safety.specs.Ledger.{counts, crashed, entered, takers, holders}
use Rattle.model.specs.Rules.Calls.Format.{formatted, format_disk}
use Rattle.model.specs.Rules.Calls.Open.{open_error}
use Rattle.model.specs.Rules.Outcome.{Call}
use Rattle.model.specs.Rules.Work.{Change, start_change, precommit_change, drop_change, revoke_change, grant_change, free_change, reserve_change, changed, Work, open_work, crash_work, store_work, begin_work, change_work, worked, worked_disk}
use Rattle.model.proofs.Laws.Works.Work.{ChangeMade, BeginMade, by-begun, Made, Fails}
use Rattle.crash_safety.specs.World.{World, world_of, begin, step, run, Without}
use Rattle.model.proofs.Laws.Calls.Accepted.{accepted-format}
use Rattle.model.proofs.Laws.Disk.Parts.{blocks-in_range, none_told, disk_of-quiet, quiet-opens}
use Rattle.model_types.proofs.Laws.Shape.{zeros-small}
use Rattle.model.proofs.Laws.Memory.Valid.{no_bits-empty}
use Rattle.crash_safety.proofs.Invariant.{Invariant, Small}
use Rattle.crash_safety.proofs.Start.{start-keeps}
use Rattle.crash_safety.proofs.Precommit.{precommit-keeps}
use Rattle.crash_safety.proofs.Rollback.{rollback-keeps}
use Rattle.crash_safety.proofs.Deallocate.{free-keeps}
use Rattle.crash_safety.proofs.Granting.{grant-keeps}
use Rattle.crash_safety.proofs.Commit.{commit-keeps}
use Rattle.crash_safety.proofs.Store.{store_keeps}
use Rattle.crash_safety.proofs.Reserve.{reserve-keeps}
use Rattle.crash_safety.proofs.Crash.{zero-invalid, crash-keeps, open-keeps}
use Rattle.crash_safety.proofs.Works.{alters, change_entry, begin_entry, told, after, by_call, by-works, by-failing}

-- a change of a slot
change-keeps : (w : World) (s : ℕ) (change : Change) → Invariant w → ChangeMade change w.memory s
    → Invariant (world_of (changed change w.memory s) w.disk (alters (change_entry change s) w.ledger))
unfolding changed entered
change-keeps w s start_change i a = start-keeps w s i a
change-keeps w s precommit_change i a = precommit-keeps w s i a
change-keeps w s drop_change i a = rollback-keeps w s i a.ready
change-keeps w s revoke_change i a = rollback-keeps w s i a.ready
change-keeps w s (grant_change blocks) i g = grant-keeps w s blocks i g.ready g.active g.available
change-keeps w s (free_change block) i a = free-keeps w s block i a
change-keeps w s (reserve_change reservation) i a = reserve-keeps w s reservation i a.ready

-- work that begins
begin-keeps : (w : World) → Invariant w → (new : Pending) → BeginMade new w.memory
    → Invariant (world_of (begun w.memory new) w.disk (alters (begin_entry new) w.ledger))
unfolding entered
begin-keeps w i =
    by-begun (λ new. Invariant (world_of (begun w.memory new) w.disk (alters (begin_entry new) w.ledger))) w.memory
    (λ s done due a e. subst (λ (m : Memory). Invariant (world_of m w.disk (counts w.ledger s))) e (commit-keeps w s i a))

-- an open is a crash first
pub work-keeps : (w : World) (call : Call) (new : Work) → Made call new w.memory w.disk → Invariant w → Invariant (after new w)
unfolding worked worked_disk told entered
work-keeps w call open_work m i = open-keeps (world_of zero_memory w.disk (crashed w.ledger)) (crash-keeps w i)
work-keeps w call crash_work m i = crash-keeps w i
work-keeps w call store_work m i = store_keeps w i m
work-keeps w call (begin_work new) m i = begin-keeps w i new m
work-keeps w call (change_work s change) m i = change-keeps w s change i m.1

pub step_keeps : (call : Call) (w : World) → Invariant w → Invariant (step call w)
step_keeps call = by_call Invariant call (λ v. work-keeps v call)

pub run-keeps : (calls : List Call) (w : World) → Invariant w → Invariant (run calls w)
run-keeps = by-works Invariant work-keeps

-- what works that fail a test keep where the invariant holds, calls without other works keep
pub by-kept : (P : World → Type 0) (test : Work → Pending → Bool)
    → ((v : World) → Invariant v → (call : Call) (new : Work) → Made call new v.memory v.disk → Fails test new v.memory → P v → P (after new v))
    → (calls : List Call) (w : World) → Without test calls w → Invariant w → P w → P (run calls w)
by-kept P test one calls w without i p =
    (by-failing (λ v. Invariant v × P v) test (λ v call new m f both. (work-keeps v call new m both.0, one v both.0 call new m f both.1)) calls w without (i, p)).1

-- ---- the beginning

formatted-small : (blocks : ℕ) → blocks ≤ max_blocks → Small (formatted blocks)
unfolding formatted
formatted-small blocks few zero = omega arith
formatted-small blocks few (suc k) = zeros-small (disk_words - 1) k

formatted-opens : (blocks : ℕ) → 1 ≤ blocks → blocks ≤ max_blocks → open_error (formatted blocks) ≡ none
unfolding formatted
formatted-opens blocks some_blocks few =
    quiet-opens blocks (replicate bitmap_words 0) (replicate tail_words 0) refl refl some_blocks few (no_bits-empty blocks)

formatted-durable : (blocks : ℕ) → durable (formatted blocks) ≡ replicate bitmap_words 0
unfolding formatted
formatted-durable blocks = disk_of-quiet blocks 0 (replicate bitmap_words 0) (replicate tail_words 0) refl none_told

format-disk : (disk : List ℕ) (blocks : ℕ) → length disk ≡ disk_words → 1 ≤ blocks → blocks ≤ max_blocks → format_disk disk blocks ≡ formatted blocks
unfolding format_disk unless_refused
format-disk disk blocks size some_blocks few =
    ap (λ (e : Option Error). unless_refused e (formatted blocks) disk) (accepted-format disk blocks size (blocks-in_range blocks some_blocks few))

begins : (blocks : ℕ) → 1 ≤ blocks → blocks ≤ max_blocks → Invariant (begin (formatted blocks))
unfolding holders takers member
begins blocks some_blocks few =
    record {
      small = formatted-small blocks few;
      opens = formatted-opens blocks some_blocks few;
      kept = λ b. ap (λ (words : List ℕ). bit words b) (formatted-durable blocks) ∙ bit-empty b;
      one_holder = λ b. omega arith;
      slots = refl;
      related = λ v. absurd (false≢true (sym zero-invalid ∙ v));
    }

pub begins-formatted : (blocks : ℕ) → 1 ≤ blocks → blocks ≤ max_blocks → (disk : List ℕ) → length disk ≡ disk_words
    → Invariant (begin (format_disk disk blocks))
begins-formatted blocks some_blocks few disk size =
    subst (λ (d : List ℕ). Invariant (begin d)) (sym (format-disk disk blocks size some_blocks few)) (begins blocks some_blocks few)
