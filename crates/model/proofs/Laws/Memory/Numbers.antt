-- The number of each kind of answer is 0, or the number of the error.
use Prim.Native.Nat.{ℕ}
use mathlib.Core.Path.{◌≡◌, refl}
use mathlib.Core.Bool.{false}
use mathlib.Core.Option.{Option, none, some}
use lib.Dec.{eqb}
use Rattle.model.specs.Types.{Error, MemoryInvalid, DiskLength, DiskBlocks, DiskBitmap, DiskLog, DiskMismatch, BlocksRange, WorkPending, NothingPending, SlotRange, SlotBusy, SlotIdle, SlotPrecommitted, SlotNotPrecommitted, CountRange, ListShort, TooFewAvailable, BlockRange, BlockFree, BlockFreeing, LineMalformed, NoExtent, OverReserved, ReservedForOthers}
use Rattle.model_types.specs.Errors.{code}
use Rattle.model_types.specs.Answers.{answer, answer_number}

abbrev pub number_of : Option Error → ℕ
number_of none = 0
number_of (some error) = code error

pub answer-number : {A : Type 0} (error : Option Error) (given : A) → answer_number (answer error given) ≡ number_of error
unfolding answer
answer-number none given = refl
answer-number (some error) given = refl

-- no error has the number 0
pub code-positive : (error : Error) → eqb (code error) 0 ≡ false
code-positive MemoryInvalid = refl
code-positive DiskLength = refl
code-positive DiskBlocks = refl
code-positive DiskBitmap = refl
code-positive DiskLog = refl
code-positive DiskMismatch = refl
code-positive BlocksRange = refl
code-positive WorkPending = refl
code-positive NothingPending = refl
code-positive SlotRange = refl
code-positive SlotBusy = refl
code-positive SlotIdle = refl
code-positive SlotPrecommitted = refl
code-positive SlotNotPrecommitted = refl
code-positive CountRange = refl
code-positive ListShort = refl
code-positive TooFewAvailable = refl
code-positive BlockRange = refl
code-positive BlockFree = refl
code-positive BlockFreeing = refl
code-positive LineMalformed = refl
code-positive NoExtent = refl
code-positive OverReserved = refl
code-positive ReservedForOthers = refl
