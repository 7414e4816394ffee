-- The log of a recovery's disk.
use Rattle.store.proofs.Laws.Work.{in-recovery}
use Rattle.store.proofs.step.store_next.Goals as goal

pub store_recovery-requires : goal.store_recovery-requires
store_recovery-requires c =
    let found = in-recovery _ _ _ c.requires.sound c.in-Recovery.is _ c.requires.fits in
    record { disk_bound = found.0.few_blocks; disk_value = found.0.log; done_bound = found.1 }
