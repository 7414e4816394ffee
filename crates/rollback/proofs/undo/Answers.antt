-- What is reserved in a valid memory is few, and what is left is the definition's.
use Rattle.model.proofs.Laws.Memory.Valid.{valid-parts}
use Rattle.reserves.proofs.Laws.Few.{few-at}
use Rattle.rollback.proofs.Laws.Rollback.{rolled}
use Rattle.rollback.proofs.undo.Goals as goal

pub put_back-requires : goal.put_back-requires
put_back-requires c = few-at c.args.memory.now c.args.at (valid-parts c.args.memory.now c.requires.is_valid) c.requires.at_lt_slot_count

pub returns : goal.returns
returns c =
    rolled c.args.memory.now c.args.at c.requires.shape c.requires.is_valid _ _ c.requires.at_lt_slot_count
    c.rollback.ensures c.idle.ensures c.put_back.ensures
