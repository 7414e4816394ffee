-- The types, by the names that the definitions use.
pub use Rattle.bitmap.specs.declared.Bitmap.{Bitmap}
pub use Rattle.model_types.specs.declared.memory.SlotState.{SlotState}
pub use Rattle.model_types.specs.declared.memory.SlotState.TheVariants.{Idle, Open, Precommitted}
pub use Rattle.model_types.specs.declared.memory.Slot.{Slot}
pub use Rattle.model_types.specs.declared.memory.Reserve.{Reserve}
pub use Rattle.model_types.specs.declared.memory.Pending.{Pending}
pub use Rattle.model_types.specs.declared.memory.Pending.TheVariants.{Nothing, Commit, Recovery}
pub use Rattle.model_types.specs.declared.memory.Memory.{Memory}
pub use Rattle.model_types.specs.declared.error.Error.{Error}
pub use Rattle.model_types.specs.declared.error.Error.TheVariants.{MemoryInvalid, DiskLength, DiskBlocks, DiskBitmap, DiskLog, DiskMismatch, BlocksRange, WorkPending, NothingPending, SlotRange, SlotBusy, SlotIdle, SlotPrecommitted, SlotNotPrecommitted, CountRange, ListShort, TooFewAvailable, BlockRange, BlockFree, BlockFreeing, LineMalformed, NoExtent, OverReserved, ReservedForOthers}
pub use Rattle.std.specs.Prelude.{Ok, Err, ⊤}
pub use Rattle.model_types.specs.Answers.{Answer}
pub use Rattle.model_types.specs.declared.answer.Counts.{Counts}
