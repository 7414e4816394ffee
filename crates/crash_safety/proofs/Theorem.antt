-- Crash safety: the invariant holds after every list of calls, and it is safe. An open puts memory and disk in order, so its
-- stores are accepted to the last; they leave the ledger's allocated set, and then words 2 to 129 are what the disk stands for.
use Prim.Native.Nat.{ℕ, zero, suc}
use native.Mathlib.Omega.{arith}
use mathlib.Core.Path.{◌≡◌, refl, sym, ap, ◌∙◌, subst}
use mathlib.Core.Option.{Option, none}
use mathlib.Core.List.{List}
use lib.ListN.{replicate}
use Rattle.bitmap.specs.Bits.{bit}
use Rattle.bitmap.specs.Blocks.{member}
use Rattle.model_types.specs.declared.error.Error.{Error}
use Rattle.model_types.specs.declared.memory.Memory.{Memory}
use Rattle.model_types.specs.declared.memory.Pending.TheVariants.{Nothing}
use Rattle.model_types.specs.Answers.{answer, answer_value}
use Rattle.model.specs.Rules.Pending.{stores_done, stores_due, stores_left}
use Rattle.model.specs.Rules.Disk.{disk_bitmap, log_length, durable, disk_matches}
use Rattle.model.specs.Rules.Calls.Format.{format_disk}
use Rattle.model.specs.Rules.Calls.Open.{open_error, recovery_due, recovery_pending, opened as opened_memory, open_answer, open_memory}
use Rattle.model.specs.Rules.Completion.{State}
use Rattle.model.specs.Rules.Outcome.{outcome, open_call, store_call}
use Rattle.model.proofs.Laws.Disk.Matching.{rest-matches, quiet-durable}
use Rattle.crash_safety.specs.World.{World, begin, step, run}
use Rattle.crash_safety.specs.InOrder.{Consistent, InUse}
use Rattle.crash_safety.specs.Statement.{Safe, open_due, CrashSafe}
use Rattle.crash_safety.proofs.Invariant.{Invariant}
use Rattle.crash_safety.proofs.Crash.{open-memory}
use Rattle.crash_safety.proofs.Keeps.{step_keeps, run-keeps, begins-formatted}
use Rattle.crash_safety.proofs.InOrder.Always.{open-uses}
use Rattle.crash_safety.proofs.Completion.{sized-in-use, stored, after-stored, Ended, ends}
use Rattle.crash_safety.proofs.Recovering.{Settled, stores-settled, open-settles}

-- the stores that an open answers are those that are left then
recovery-left : (p : ℕ) → stores_left (recovery_pending p) ≡ recovery_due p
unfolding stores_left stores_done stores_due recovery_pending recovery_due
recovery-left zero = refl
recovery-left (suc p) = omega arith

open-left : (disk : List ℕ) → open_error disk ≡ none → stores_left (open_memory disk).pending ≡ open_due disk
unfolding opened_memory open_answer answer
open-left disk e =
    ap (λ (m : Memory). stores_left m.pending) (open-memory disk e)
    ∙ recovery-left (log_length disk)
    ∙ sym (ap (λ (x : Option Error). answer_value (answer x (recovery_due (log_length disk)))) e)

module _ (w : World) (i : Invariant w) where
  -- the world just opened
  abbrev opening : World
  opening = step open_call w

  -- its recovery made
  abbrev n : ℕ
  n = open_due w.disk

  opened : InUse opening
  opened = open-uses w i

  recovered : Ended n opening.memory opening.disk
  unfolding step outcome
  recovered =
      ends n opening.memory opening.disk (sized-in-use opening (step_keeps open_call w i) opened) opened (open-left w.disk i.opens)

  -- the invariant holds, and the world is in use with nothing pending
  kept : Invariant (stored n opening)
  kept = run-keeps (replicate n store_call) opening (step_keeps open_call w i)

  abbrev after : State
  after = record { memory = (stored n opening).memory; disk = (stored n opening).disk }

  used : Consistent after.memory after.disk
  used = subst (λ (x : State). Consistent x.memory x.disk) (after-stored n opening) recovered.consistent

  nothing : after.memory.pending ≡ Nothing
  nothing = subst (λ (x : State). x.memory.pending ≡ Nothing) (after-stored n opening) recovered.ended

  -- words 2 to 129 are then what the disk stands for
  bitmap-stands : durable after.disk ≡ disk_bitmap after.disk
  bitmap-stands =
      quiet-durable after.memory.blocks after.memory.sam.words after.disk (kept.related used.is_valid).sam.size
      (sym (rest-matches after.memory after.disk) ∙ sym (ap (disk_matches after.memory after.disk) nothing) ∙ used.matches)

  -- and the allocated set is that of before
  allocated-stays : Settled w.ledger.allocated (stored n opening).ledger
  allocated-stays = stores-settled n opening w.ledger.allocated (open-settles w.ledger.allocated w refl)

  pub safe : Safe w
  unfolding step outcome opened_memory
  safe =
      record {
        one_holder = i.one_holder;
        opens = i.opens;
        finds = λ b. ap (λ (m : Memory). bit m.sam.words b) (open-memory w.disk i.opens) ∙ i.kept b;
        stores = recovered.accepted;
        keeps = λ b.
            ap (λ (s : State). bit (disk_bitmap s.disk) b) (after-stored n opening)
            ∙ ap (λ (words : List ℕ). bit words b) (sym bitmap-stands)
            ∙ kept.kept b
            ∙ ap (member b) allocated-stays.same;
      }

pub crash-safe : CrashSafe
crash-safe blocks some_blocks few disk size calls =
    safe (run calls (begin (format_disk disk blocks)))
    (run-keeps calls (begin (format_disk disk blocks)) (begins-formatted blocks some_blocks few disk size))
