-- Where no cause holds the memory is the disk's, and else that of zeros.
use mathlib.Core.Path.{sym, ap, ap₂, ◌∙◌}
use Prim.Native.Nat.{ℕ}
use mathlib.Core.List.{List}
use Rattle.std.specs.Prelude.{Ok}
use Rattle.model_types.specs.declared.memory.Pending.{Pending}
use Rattle.model_types.specs.Answers.{answer}
use Rattle.model_types.specs.Memory.{quiet_memory, bitmap}
use Rattle.model.specs.Rules.Disk.{length_in, disk_blocks}
use Rattle.model.specs.Rules.First.{unless_refused}
use Rattle.model.specs.Rules.Calls.Open.{opened, open_answer, open_memory}
use Rattle.model.proofs.Laws.Disk.Parts.{opens-parts}
use Rattle.volume.proofs.Laws.Open.{few_logged, log-there}
use Rattle.volume.proofs.open.open.Goals.{in-Ok, in-Err}
use Rattle.volume.proofs.open.open.Goals as goal

pub replay-requires-clause-disk_bound : goal.replay-requires-clause-disk_bound
replay-requires-clause-disk_bound c = rw c.in-Ok.ensures.1 (opens-parts _ c.in-Ok.ensures.0).few_blocks

pub replay-requires-clause-disk_value : goal.replay-requires-clause-disk_value
replay-requires-clause-disk_value c = rw c.in-Ok.ensures.1 (log-there _ c.in-Ok.ensures.0)

pub recovery_due-requires : goal.recovery_due-requires
unfolding length_in
recovery_due-requires c = rw c.in-Ok.ensures.1 (few_logged _ c.in-Ok.ensures.0)

pub recovery-requires : goal.recovery-requires
unfolding length_in
recovery-requires c = rw c.in-Ok.ensures.1 (few_logged _ c.in-Ok.ensures.0)

pub returns-clause-answers : goal.returns-clause-answers
unfolding open_answer answer length_in
returns-clause-answers c =
    elim c.match-tested.branch [
      | in-Ok w ↦ rw (w.answer-is, w.in-Ok.ensures.0, sym w.in-Ok.ensures.1) (ap Ok w.recovery_due.ensures)
      | in-Err w ↦ rw (w.answer-is, w.in-Err.ensures)
    ]

pub returns-clause-gives : goal.returns-clause-gives
unfolding open_memory opened unless_refused length_in
returns-clause-gives c =
    elim c.match-tested.branch [
      | in-Ok w ↦
          c.quiet.ensures
          ∙ rw (w.answer-is, w.in-Ok.ensures.0, sym w.in-Ok.ensures.1)
          (ap₂ (λ (words : List ℕ) (pending : Pending). quiet_memory (disk_blocks w.in-Ok.words.now) (bitmap words) pending) w.replay.ensures w.recovery.ensures)
      | in-Err w ↦ c.quiet.ensures ∙ rw (w.answer-is, w.in-Err.ensures)
    ]
