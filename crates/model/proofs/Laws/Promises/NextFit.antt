-- What allocate promises of the blocks that it grants and of the cursor (specs/Promises/NextFit.antt).
use Prim.Native.Nat.{ℕ, ◌+◌, ◌-◌, ◌≤◌, ◌<◌, zero-le}
use native.Mathlib.Numerals.{add-one}
use native.Mathlib.Omega.{arith}
use mathlib.Core.Path.{◌≡◌, refl, sym, ap, ap₂, ◌∙◌}
use mathlib.Core.Bool.{true, true≢false}
use mathlib.Core.Option.{Option, none, some}
use mathlib.Core.List.{List, ◌++◌}
use lib.ListN.{length, get_or, take, drop, length-take, get_or-append}
use lib.Seq.{length_front, length-take-le, get_or-take, take_at, take-add}
use borrow.Author.Tests.{lt-ltb, le-ltb}
use Rattle.bitmap.specs.Sizes.{max_blocks}
use Rattle.bitmap.specs.Blocks.{from, available_blocks, member}
use Rattle.bitmap.specs.Round.{round_from, wrapped, after_last}
use Rattle.bitmap.proofs.Laws.Blocks.{get_or-member, member-take, from-append}
use Rattle.bitmap.proofs.Laws.Round.{member-round, round-member, round-zero, round_same, without, available-without, round-drop, after-met-lt, after-last-at, wrapped-below, wrapped-end}
use Rattle.bitmap.proofs.Laws.Ahead.{Rises, rises-at, rises-first, round-rises}
use Rattle.model.specs.Types.{Pending, Memory, Error, Ok}
use Rattle.model_types.specs.Memory.{zero_memory}
use Rattle.model.specs.Rules.First.{unless_refused}
use Rattle.model.specs.Rules.Available.{available}
use Rattle.model.specs.Rules.Commit.{committed}
use Rattle.model.specs.Rules.Pending.{finished}
use Rattle.model.specs.Rules.Calls.Open.{open_error, opened, open_memory}
use Rattle.model.specs.Rules.Calls.Allocate.{allocate_error, met, first_met, taking, allocate_answer, allocate_memory, allocate_list}
use Rattle.model.specs.Rules.Calls.AllocateExtent.{allocate_extent_error, nearest_extent, allocate_extent_answer, allocate_extent_memory}
use Rattle.model.specs.Rules.Outcome.{outcome}
use Rattle.model.specs.Rules.Work.{Work, open_work, crash_work, store_work, begin_work, change_work, worked}
use Rattle.model.proofs.Laws.Works.Work.{Fails, by-failing}
use Rattle.model.proofs.Laws.Works.Change.{change-frame}
use Rattle.model.proofs.Laws.Works.Progress.{by-finish, by-store, by-begin}
use Rattle.model.specs.Promises.NextFit.{AvailableBlock, ahead, ListsMet, ListsFirstMet, AnswersFirstMet, CutRotation, ListsRotation, LowestFromZero, Behind, CursorBehindLast, CursorBehindExtent, CarriesOn, CursorAnew, moves_cursor, CursorStays}
use Rattle.model.proofs.Laws.Calls.Answered.{told-answer}
use Rattle.model.proofs.Laws.Calls.Accepted.{AllocateAccepted, allocate-accepted, allocate-extent-accepted}
use Rattle.model.proofs.Laws.Memory.Valid.{ValidParts, valid-parts}
use Rattle.model.proofs.Laws.Memory.Fit.{available_in}
use Rattle.model.proofs.Laws.Memory.Taking.{met-length}
use Rattle.model.proofs.Laws.Promises.Extents.{later-places, nearest-at, nearest-length}

-- ---- the order met

module _ (memory : Memory) (below : memory.cursor < memory.blocks) where
  -- how far a block lies ahead, from the cursor on and before it
  ahead-from : (b : ℕ) → memory.cursor ≤ b → ahead memory b ≡ b - memory.cursor
  unfolding ahead
  ahead-from b h = rw (le-ltb b memory.cursor h)

  ahead_before : (b : ℕ) → b < memory.cursor → ahead memory b ≡ b + memory.blocks - memory.cursor
  unfolding ahead
  ahead_before b h = rw (lt-ltb b memory.cursor h)

  -- the blocks met lie ever further ahead
  met-rises : Rises (ahead memory) (met memory)
  unfolding met
  met-rises =
      round-rises (ahead memory) (available_in memory) memory.blocks memory.cursor
      (λ a b l h k. omega (arith, ahead-from a l, ahead-from b (omega arith)))
      (λ a b l h k. omega (arith, ahead-from a l, ahead_before b k))
      (λ a b h k. omega (arith, ahead_before a (omega arith), ahead_before b k))

  -- they are the available ones
  met-block : (b : ℕ) → member b (met memory) ≡ true → AvailableBlock memory b
  unfolding met
  met-block b h =
      let f = member-round (available_in memory) memory.blocks memory.cursor (omega arith) b h in
      record { within = f.0; available = f.1 }

  block-met : (b : ℕ) → AvailableBlock memory b → member b (met memory) ≡ true
  unfolding met
  block-met b a = round-member (available_in memory) memory.blocks memory.cursor (omega arith) b a.within a.available

-- ---- what a grant leaves

-- the cursor is behind the last block taken
taking-behind : (memory : Memory) (s : ℕ) (blocks : List ℕ) (count : ℕ) → 1 ≤ count → length blocks ≡ count
    → Behind memory.blocks (get_or blocks (count - 1) 0) (taking memory s blocks).cursor
unfolding taking
taking-behind memory s blocks count filled size =
    rw (after-last-at memory.blocks memory.cursor blocks (count - 1) (omega arith), ← add-one (get_or blocks (count - 1) 0))
    (record {
      next = λ h. wrapped-below memory.blocks (get_or blocks (count - 1) 0 + 1) h;
      anew = λ e. ap (wrapped memory.blocks) e ∙ wrapped-end memory.blocks;
    })

-- those taken are no more available, and no other block changes
available-after : (memory : Memory) (s : ℕ) (blocks : List ℕ) → memory.blocks ≤ max_blocks → (b : ℕ) → b < memory.blocks
    → available_in (taking memory s blocks) b ≡ without (available_in memory) blocks b
unfolding taking
available-after memory s blocks few b h = available-without memory.blocks memory.sam.words memory.com.words blocks b few h

-- ---- a grant

module _ (memory : Memory) (s count : ℕ) (list : List ℕ) (b : ℕ) (answered : allocate_answer memory s count list ≡ Ok b) where
  -- the blocks met, those granted, and the list after it
  abbrev all : List ℕ
  all = met memory

  abbrev blocks : List ℕ
  blocks = first_met memory count

  abbrev after : List ℕ
  after = allocate_list memory s count list

  -- what an answered block tells
  told : (allocate_error memory s count list ≡ none) × (get_or blocks 0 0 ≡ b)
  unfolding allocate_answer
  told = told-answer (allocate_error memory s count list) (get_or blocks 0 0) b answered

  accepted : AllocateAccepted memory s count list
  accepted = allocate-accepted memory s count list told.0

  parts : ValidParts memory
  parts = valid-parts memory accepted.ready.is_valid

  below : memory.cursor < memory.blocks
  below = parts.cursor_below

  -- as many are granted as are asked
  size : length blocks ≡ count
  size = met-length memory count below accepted.enough

  enough : count ≤ length all
  unfolding first_met
  enough = omega (arith, size, length-take count all)

  -- what it leaves
  memory-is : allocate_memory memory s count list ≡ taking memory s blocks
  unfolding allocate_memory unless_refused
  memory-is = rw told.0

  list-is : after ≡ blocks ++ drop count list
  unfolding allocate_list unless_refused
  list-is = rw told.0

  -- the first places, all and one by one
  listed : take count after ≡ blocks
  listed = ap (take count) list-is ∙ take_at blocks (drop count list) count size

  at : (i : ℕ) → i < count → get_or after i 0 ≡ get_or blocks i 0
  at i h = ap (λ (l : List ℕ). get_or l i 0) list-is ∙ get_or-append blocks (drop count list) 0 i (omega (arith, size))

  -- each of them is granted
  at-member : (i : ℕ) → i < count → member (get_or after i 0) blocks ≡ true
  at-member i h = rw (at i h) (get_or-member blocks i (omega (arith, size)))

  last-inside : count - 1 < count
  last-inside = omega (arith, accepted.some)

  -- ever further ahead
  order : (i j : ℕ) → i < j → j < count → ahead memory (get_or after i 0) < ahead memory (get_or after j 0)
  unfolding first_met
  order i j l h =
      let k : i < count = omega arith in
      rw (at i k, at j h, get_or-take count all i 0 k, get_or-take count all j 0 h)
      (rises-at (ahead memory) all i j (met-rises memory below) l (omega (arith, enough)))

  -- the five promises of one grant
  lists : ListsMet memory count list after
  unfolding first_met
  lists =
      record {
        same_length = ap length list-is ∙ length_front list blocks count (size ∙ sym (length-take-le count list accepted.room));
        available = λ i h. met-block memory below (get_or after i 0) (member-take count (get_or after i 0) all (at-member i h));
        no_block_twice = λ i j l h e. omega (arith, order i j l h, ap (ahead memory) e);
        in_order = order;
        none_left_out = λ c a l.
            rw listed
            (rises-first (ahead memory) all count (get_or after (count - 1) 0) c (met-rises memory below) (at-member (count - 1) last-inside) (block-met memory below c a) l);
        later = λ i h. ap (λ (l : List ℕ). get_or l i 0) list-is ∙ later-places blocks list count size i h;
      }

  answers : b ≡ get_or after 0 0
  answers = sym (at 0 accepted.some ∙ told.1)

  rotation : CutRotation count (available memory) (take count after)
  unfolding first_met met round_from available available_blocks
  rotation =
      record {
        low = from (available_in memory) memory.cursor 0;
        high = from (available_in memory) memory.blocks memory.cursor;
        parts = from-append (available_in memory) memory.blocks 0 memory.cursor zero-le (omega (arith, below));
        rotated = listed;
      }

  lowest : memory.cursor ≡ 0 → after ≡ take count (available memory) ++ drop count list
  unfolding first_met met available available_blocks
  lowest e =
      list-is
      ∙ ap (λ (l : List ℕ). take count l ++ drop count list)
      (ap (round_from (available_in memory) memory.blocks) e ∙ round-zero (available_in memory) memory.blocks)

  behind : Behind memory.blocks (get_or after (count - 1) 0) (allocate_memory memory s count list).cursor
  behind = rw (memory-is, at (count - 1) last-inside) (taking-behind memory s blocks count accepted.some size)

  -- what is met after it
  met-after : met (taking memory s blocks) ≡ drop count all
  unfolding met first_met taking
  met-after =
      round_same (available_in (taking memory s blocks)) (without (available_in memory) blocks) memory.blocks
      (after_last memory.blocks memory.cursor blocks) (omega (arith, after-met-lt (available_in memory) memory.blocks memory.cursor below count))
      (available-after memory s blocks parts.few_blocks)
      ∙ round-drop (available_in memory) memory.blocks memory.cursor below count enough

-- so allocate lists the blocks in the order met, and none is left out; its value is the first; they are a rotation of the rising
-- list, and the lowest from block 0 on; the cursor is behind the last
pub lists-first-met : ListsFirstMet
lists-first-met = lists

pub answers-first-met : AnswersFirstMet
answers-first-met = answers

pub lists-rotation : ListsRotation
lists-rotation = rotation

pub lowest-from-zero : LowestFromZero
lowest-from-zero = lowest

pub cursor-behind-last : CursorBehindLast
cursor-behind-last = behind

-- the last block of an extent is its first and the count, less 1
pub cursor-behind-extent : CursorBehindExtent
unfolding allocate_extent_answer allocate_extent_memory unless_refused
cursor-behind-extent memory s count near list b answered =
    let e = told-answer (allocate_extent_error memory s count near list) _ b answered in
    let a = allocate-extent-accepted memory s count near list e.0 in
    let last : get_or (nearest_extent memory count near) (count - 1) 0 ≡ b + count - 1 =
    nearest-at memory count near (count - 1) (omega (arith, a.some)) ∙ omega (arith, a.some, nearest-at memory count near 0 a.some, e.1) in
    rw (e.0, ← last) (taking-behind memory s (nearest_extent memory count near) count a.some (nearest-length memory count near))

-- the second one meets what the first one has left
pub carries-on : CarriesOn
unfolding first_met
carries-on memory s count list b answered t more other c next =
    let after : Memory = allocate_memory memory s count list in
    take-add count more (met memory)
    ∙ sym
    (ap₂ ◌++◌
    (listed memory s count list b answered)
    (listed after t more other c next
    ∙ ap (λ (new : Memory). take more (met new)) (memory-is memory s count list b answered)
    ∙ ap (take more) (met-after memory s count list b answered)))

-- ---- the calls

left : (error : Option Error) (new old : Memory) (p : ℕ) → new.cursor ≡ p → old.cursor ≡ p → (unless_refused error new old).cursor ≡ p
unfolding unless_refused
left none new old p e f = e
left (some error) new old p e f = f

-- both memories that an open can leave have it at 0
pub cursor-anew : CursorAnew
unfolding outcome open_memory opened
cursor-anew memory disk = (left (open_error disk) (opened disk) zero_memory 0 refl refl, refl)

-- nor does the last store of a work move it
cursor-finished : (memory : Memory) (p : Pending) → (finished memory p).cursor ≡ memory.cursor
unfolding committed
cursor-finished memory p = by-finish (λ m. m.cursor ≡ memory.cursor) memory refl refl p (λ _ _ _ _. refl)

-- work by work
cursor-worked : (new : Work) (memory : Memory) (disk : List ℕ) → Fails moves_cursor new memory → (worked new memory disk).cursor ≡ memory.cursor
unfolding moves_cursor worked
cursor-worked open_work memory disk e = absurd (true≢false e)
cursor-worked crash_work memory disk e = absurd (true≢false e)
cursor-worked store_work memory disk e =
    by-store (λ m. m.cursor ≡ memory.cursor) memory memory.pending (cursor-finished memory memory.pending) refl
cursor-worked (begin_work new) memory disk e = by-begin (λ m. m.cursor ≡ memory.cursor) memory new (cursor-finished memory new) refl
cursor-worked (change_work s change) memory disk e = (change-frame memory s change).cursor e

pub cursor-stays : CursorStays
cursor-stays call memory disk e =
    by-failing (λ m. m.cursor ≡ memory.cursor) moves_cursor (λ new m d f p. cursor-worked new m d f ∙ p) call memory disk e refl
