-- The papers' number for each error.
use Rattle.std.specs.Prelude.{ℕ, ◌≡◌}
use Rattle.model_types.specs.declared.error.Error.{Error}
use Rattle.model_types.specs.declared.error.Error.TheVariants.{MemoryInvalid, DiskLength, DiskBlocks, DiskBitmap, DiskLog, DiskMismatch, BlocksRange, WorkPending, NothingPending, SlotRange, SlotBusy, SlotIdle, SlotPrecommitted, SlotNotPrecommitted, CountRange, ListShort, TooFewAvailable, BlockRange, BlockFree, BlockFreeing, LineMalformed, NoExtent, OverReserved, ReservedForOthers}

-- the column "No." of document 01's table. "Causes that these jobs add join document 01's table" (document 02, job 4)
abbrev pub code : Error → ℕ
code MemoryInvalid = 1
code DiskLength = 2
code DiskBlocks = 3
code DiskBitmap = 4
code DiskLog = 5
code DiskMismatch = 6
code BlocksRange = 7
code WorkPending = 8
code NothingPending = 9
code SlotRange = 10
code SlotBusy = 11
code SlotIdle = 12
code SlotPrecommitted = 13
code SlotNotPrecommitted = 14
code CountRange = 15
code ListShort = 16
code TooFewAvailable = 17
code BlockRange = 18
code BlockFree = 19
code BlockFreeing = 20
code LineMalformed = 21
code NoExtent = 22
code OverReserved = 23
code ReservedForOthers = 24

-- as a number
abbrev pub IsCode : Error → ℕ → Type 0
IsCode error number = number ≡ code error
