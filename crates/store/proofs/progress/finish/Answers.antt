-- By the kind of work.
use mathlib.Core.Path.{ap, ◌∙◌}
use Rattle.model_types.specs.declared.memory.Memory.{Memory}
use Rattle.model_types.specs.declared.memory.Pending.TheVariants.{Nothing}
use Rattle.model_types.specs.Memory.{with_pending}
use Rattle.store.proofs.Laws.Next.{commit-finished, other-finished}
use Rattle.store.proofs.progress.finish.Goals as goal
use Rattle.store.proofs.progress.finish.Goals.{in-Commit, in_default}

pub returns : goal.returns
returns c =
    elim c.match-memory.branch [
      | in-Commit w ↦
          ap (λ (memory : Memory). with_pending memory Nothing) w.memory-is
          ∙ commit-finished c.args.memory.now _ _ _ c.requires.shape c.requires.sound w.in-Commit.is _ _ w.refresh.ensures w.use_up.ensures
      | in_default w ↦ ap (λ (memory : Memory). with_pending memory Nothing) w.memory-is ∙ other-finished c.args.memory.now w.in_default.not-Commit
    ]
