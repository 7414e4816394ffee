-- Allocate and deallocate turn blocks at which COM is SAM: COM and the slot's bitmap become SAM's complement there, so just
-- this slot has touched them, and the memory after it is valid.
use Prim.Native.Nat.{ℕ, ◌+◌, ◌≤◌, ◌<◌}
use native.Mathlib.Omega.{arith}
use mathlib.Core.Path.{◌≡◌, refl, sym, ap, ap₂, ◌∙◌}
use mathlib.Core.Bool.{Bool, true, false, not, cond, xor, ◌&&◌, ◌||◌, false≢true, and-false}
use mathlib.Core.List.{List}
use lib.ListN.{length, set}
use lib.Seq.{length-take-le, get_or-set_other}
use lib.Dec.{eqb}
use borrow.Author.Tests.{eqb-true}
use Rattle.bitmap.specs.Bits.{bit}
use Rattle.bitmap.specs.Blocks.{is_available, available_blocks, from, member}
use Rattle.bitmap.specs.Round.{after_last}
use Rattle.bitmap.proofs.Laws.Bits.{bit_below, no_bits-bitmap_of}
use Rattle.bitmap.proofs.Laws.Blocks.{Distinct, distinct-take, member-take, from-same, available-free, available-unused}
use Rattle.bitmap.proofs.Laws.Ahead.{round-distinct}
use Rattle.bitmap.proofs.Laws.Count.{count-disjoint, count-distinct}
use Rattle.bitmap.proofs.Laws.Round.{member-round, round-length, after-last-lt, available-without}
use Rattle.model.specs.Types.{Bitmap, Nothing, Slot, Reserve, Memory}
use Rattle.model_types.specs.Memory.{slot_at, reserve_at, no_reserve, with_tam, is_active, sam_bit, com_bit, tam_bit, with_com, volume_bitmap}
use Rattle.model.specs.Rules.Reserves.{drawing}
use Rattle.model.specs.Rules.Touched.{touched, took, taken_blocks}
use Rattle.model.specs.Rules.Available.{available}
use Rattle.model.specs.Rules.Calls.Allocate.{met, first_met, taking}
use Rattle.model.specs.Rules.Calls.Deallocate.{freeing}
use Rattle.model.proofs.Laws.Memory.Fields.{slot_same}
use Rattle.model.proofs.Laws.Memory.Valid.{ReservesFit, ValidParts, touches_block}
use Rattle.model.proofs.Laws.Memory.Reserves.{Spares, total-split, total-set-le, drawn-set-le}
use Rattle.model.proofs.Laws.Memory.Fit.{available_in, took-is, fewer-available, as-available, changed, changed-fits}
use Rattle.model.proofs.Laws.Commit.Commit.{same_or_not, touched-differs}
use Rattle.model.proofs.Laws.Touched.Touches.{one, xor_self, differs, active-valid, touching-valid, cursor-valid}

not-differs : (t : Bool) → xor (not t) t ≡ true
unfolding xor
not-differs true = refl
not-differs false = refl

differs-not : (t : Bool) → xor t (not t) ≡ true
unfolding xor
differs-not true = refl
differs-not false = refl

module _ (memory : Memory) (s : ℕ) (parts : ValidParts memory) (nothing : memory.pending ≡ Nothing) (h : s < length memory.slots)
    (active : is_active (slot_at memory s).state ≡ true) where
  -- where COM is SAM the slot has touched nothing
  untouched : (b : ℕ) → b < memory.blocks → differs memory b ≡ false → touches_block memory (slot_at memory s) b ≡ false
  untouched b inside e = go (touches_block memory (slot_at memory s) b) refl
    where
      go : (t : Bool) → touches_block memory (slot_at memory s) b ≡ t → touches_block memory (slot_at memory s) b ≡ false
      go true t = absurd (false≢true (sym e ∙ touched-differs memory parts s b inside t))
      go false t = t

  turned-valid : (turned new_com new_tam : ℕ → Bool) (reserves : List Reserve)
      → ((b : ℕ) → b < memory.blocks → turned b ≡ true → com_bit memory b ≡ sam_bit memory b)
      → ((b : ℕ) → new_com b ≡ cond (turned b) (not (sam_bit memory b)) (com_bit memory b))
      → ((b : ℕ) → new_tam b ≡ cond (turned b) (not (sam_bit memory b)) (tam_bit (slot_at memory s) b))
      → ReservesFit (changed memory s (with_tam (slot_at memory s) (volume_bitmap memory new_tam)) (volume_bitmap memory new_com) reserves)
      → ValidParts (changed memory s (with_tam (slot_at memory s) (volume_bitmap memory new_tam)) (volume_bitmap memory new_com) reserves)
  unfolding touched
  turned-valid turned new_com new_tam reserves same com-is tam-is fit =
      touching-valid memory s slot (volume_bitmap memory new_com) reserves parts nothing h
      (active-valid memory.blocks slot active (no_bits-bitmap_of memory.blocks new_tam))
      (no_bits-bitmap_of memory.blocks new_com)
      (λ b inside. go b inside (turned b) refl)
      fit
    where
      slot : Slot
      slot = with_tam (slot_at memory s) (volume_bitmap memory new_tam)

      -- the new bits of COM and of the slot
      com-bit : (b : ℕ) → b < memory.blocks → bit (volume_bitmap memory new_com).words b ≡ cond (turned b) (not (sam_bit memory b)) (com_bit memory b)
      com-bit b inside = bit_below memory.blocks new_com b parts.few_blocks inside ∙ com-is b

      tam-bit : (b : ℕ) → b < memory.blocks → tam_bit slot b ≡ cond (turned b) (not (sam_bit memory b)) (tam_bit (slot_at memory s) b)
      tam-bit b inside = bit_below memory.blocks new_tam b parts.few_blocks inside ∙ tam-is b

      go : (b : ℕ) → b < memory.blocks → (t : Bool) → turned b ≡ t
          → one (touches_block memory slot b) + one (differs memory b)
          ≡ one (touches_block memory (slot_at memory s) b) + one (xor (sam_bit memory b) (bit (volume_bitmap memory new_com).words b))
      go b inside true e =
          let sam : Bool = sam_bit memory b in
          let agree : differs memory b ≡ false = ap (xor sam) (same b inside e) ∙ xor_self sam in
          let «com» : bit (volume_bitmap memory new_com).words b ≡ not sam = com-bit b inside ∙ ap (λ (t : Bool). cond t (not sam) (com_bit memory b)) e in
          let tam : tam_bit slot b ≡ not sam = tam-bit b inside ∙ ap (λ (t : Bool). cond t (not sam) (tam_bit (slot_at memory s) b)) e in
          let touches-it : touches_block memory slot b ≡ true = ap₂ (λ (x y : Bool). x && xor y sam) active tam ∙ not-differs sam in
          omega (
            arith,
            ap one agree,
            ap one touches-it,
            ap one (untouched b inside agree),
            ap one (ap (xor sam) «com» ∙ differs-not sam),
          )
      go b inside false e =
          let sam : Bool = sam_bit memory b in
          let «com» : bit (volume_bitmap memory new_com).words b ≡ com_bit memory b =
          com-bit b inside ∙ ap (λ (t : Bool). cond t (not sam) (com_bit memory b)) e in
          let tam : tam_bit slot b ≡ tam_bit (slot_at memory s) b = tam-bit b inside ∙ ap (λ (t : Bool). cond t (not sam) (tam_bit (slot_at memory s) b)) e in
          omega (
            arith,
            ap (λ (t : Bool). one (is_active (slot_at memory s).state && xor t sam)) tam,
            ap (λ (t : Bool). one (xor sam t)) «com»,
          )

-- ---- a grant

-- an available block is below m, with SAM 0 and COM 0
pub record Available (memory : Memory) (b : ℕ) : Type 0 where
  pub below : b < memory.blocks
  pub free : sam_bit memory b ≡ false
  pub unused : com_bit memory b ≡ false

-- every block of a list is
abbrev pub AllAvailable : Memory → List ℕ → Type 0
AllAvailable memory blocks = (b : ℕ) → member b blocks ≡ true → Available memory b

-- the slot and COM with these blocks at 1, and what is reserved then
abbrev marked_slot : Memory → ℕ → List ℕ → Slot
marked_slot memory s blocks = with_tam (slot_at memory s) (volume_bitmap memory (λ b. member b blocks || tam_bit (slot_at memory s) b))

abbrev marked_com : Memory → List ℕ → Bitmap
marked_com memory blocks = volume_bitmap memory (λ b. member b blocks || com_bit memory b)

abbrev drawn_on : Memory → ℕ → List ℕ → List Reserve
drawn_on memory s blocks = set memory.reserves s (drawing (reserve_at memory s) (length blocks))

-- the memory with all of these, the cursor where it was
abbrev marked : Memory → ℕ → List ℕ → Memory
marked memory s blocks = changed memory s (marked_slot memory s blocks) (marked_com memory blocks) (drawn_on memory s blocks)

module _ (memory : Memory) (s : ℕ) (blocks : List ℕ) (all : AllAvailable memory blocks) (parts : ValidParts memory) (nothing : memory.pending ≡ Nothing)
    (h : s < length memory.slots) (active : is_active (slot_at memory s).state ≡ true) where
  -- no more blocks cease to be available than are listed
  pub left-available : length (available memory) ≤ length (available (marked memory s blocks)) + length blocks
  left-available =
      fewer-available memory (marked memory s blocks) refl blocks (λ b inside.
      rw (available-without memory.blocks memory.sam.words memory.com.words blocks b parts.few_blocks inside)
      (go (member b blocks) (available_in memory b)))
    where
      go : (m a : Bool) → cond a 1 0 ≤ cond m 1 0 + cond (a && not m) 1 0
      go true true = omega arith
      go true false = omega arith
      go false true = omega arith
      go false false = omega arith

  -- and, where none is listed twice, the slot took so many more
  more-taken : Distinct blocks
      → length (taken_blocks memory s) + length blocks ≤ length (from (took memory (marked_slot memory s blocks)) memory.blocks 0)
  unfolding taken_blocks touched xor
  more-taken once =
      omega (
        arith,
        count-distinct blocks memory.blocks once (λ b e. (all b e).below),
        count-disjoint (took memory (slot_at memory s)) (λ b. member b blocks) (took memory (marked_slot memory s blocks)) memory.blocks
            (λ b inside.
            rw (
              took-is memory (slot_at memory s) b,
              took-is memory (marked_slot memory s blocks) b,
              bit_below memory.blocks (λ x. member x blocks || tam_bit (slot_at memory s) x) b parts.few_blocks inside,
            )
            (go b inside (member b blocks) refl (tam_bit (slot_at memory s) b) refl (sam_bit memory b) refl)),
      )
    where
      -- a listed block wasn't the slot's
      unset : (b : ℕ) → b < memory.blocks → member b blocks ≡ true → tam_bit (slot_at memory s) b ≡ false
      unset b inside e =
          let free = (all b e).free in
          let agree : differs memory b ≡ false = ap₂ xor free (all b e).unused in
          same_or_not (tam_bit (slot_at memory s) b) (sam_bit memory b)
          (sym (ap (λ (t : Bool). t && touched memory (slot_at memory s) b) active) ∙ untouched memory s parts nothing h active b inside agree)
          ∙ free

      go : (b : ℕ) → b < memory.blocks → (m : Bool) → member b blocks ≡ m → (t : Bool) → tam_bit (slot_at memory s) b ≡ t → (u : Bool) → sam_bit memory b ≡ u
          → cond (t && not u) 1 0 + cond m 1 0 ≤ cond ((m || t) && not u) 1 0
      go b inside true e true f u g = absurd (false≢true (sym (unset b inside e) ∙ f))
      go b inside true e false f true g = absurd (false≢true (sym (all b e).free ∙ g))
      go b inside true e false f false g = omega arith
      go b inside false e true f true g = omega arith
      go b inside false e true f false g = omega arith
      go b inside false e false f u g = omega arith

  -- so what is reserved still fits
  grant-fits : Distinct blocks → Spares memory s (length blocks) → ReservesFit (marked memory s blocks)
  unfolding drawing
  grant-fits once spares =
      let reserve = drawing (reserve_at memory s) (length blocks) in
      changed-fits memory s (marked_slot memory s blocks) (marked_com memory blocks) (drawn_on memory s blocks) parts h
      (λ t n. get_or-set_other memory.reserves s t reserve no_reserve n)
      (omega (
        arith,
        total-set-le memory.reserves s reserve,
        total-split memory.reserves s,
        parts.reserves_fit.total,
        left-available,
        spares,
      ))
      (λ below.
      omega (arith, drawn-set-le memory.reserves s reserve, parts.reserves_fit.drawn s below, more-taken once))

  set_there : (b : ℕ) (t : Bool) → member b blocks ≡ t → (old : Bool) → (t || old) ≡ cond t (not (sam_bit memory b)) old
  set_there b true e old = sym (ap not (all b e).free)
  set_there b false e old = refl

  -- a grant of available blocks, in whatever order, leaves a valid memory
  pub grant-valid : Distinct blocks → Spares memory s (length blocks) → ValidParts (taking memory s blocks)
  unfolding taking
  grant-valid once spares =
      cursor-valid (marked memory s blocks) (after_last memory.blocks memory.cursor blocks)
      (turned-valid memory s parts nothing h active (λ b. member b blocks) _ _ (drawn_on memory s blocks)
      (λ b inside e. (all b e).unused ∙ sym (all b e).free)
      (λ b. set_there b (member b blocks) refl (com_bit memory b))
      (λ b. set_there b (member b blocks) refl (tam_bit (slot_at memory s) b))
      (grant-fits once spares))
      nothing
      (after-last-lt memory.blocks memory.cursor blocks parts.cursor_below (λ b e. (all b e).below))

-- and its slot in the state it was in
pub taking-state : (memory : Memory) (s : ℕ) (blocks : List ℕ) → s < length memory.slots → (slot_at (taking memory s blocks) s).state ≡ (slot_at memory s).state
unfolding taking
taking-state memory s blocks h =
    ap (λ (slot : Slot). slot.state)
    (slot_same (with_com memory (volume_bitmap memory (λ b. member b blocks || com_bit memory b))) s
    (with_tam (slot_at memory s) (volume_bitmap memory (λ b. member b blocks || tam_bit (slot_at memory s) b)))
    h)

-- a block below m that tests as available is
pub available-of : (memory : Memory) (b : ℕ) → b < memory.blocks → is_available memory.sam.words memory.com.words b ≡ true → Available memory b
available-of memory b inside e =
    record {
      below = inside;
      free = available-free memory.sam.words memory.com.words b e;
      unused = available-unused memory.sam.words memory.com.words b e;
    }

-- the first n blocks met are such a list
pub met-available : (memory : Memory) (count : ℕ) → memory.cursor < memory.blocks → AllAvailable memory (first_met memory count)
unfolding first_met met
met-available memory count below b e =
    let test = is_available memory.sam.words memory.com.words in
    let p = member-round test memory.blocks memory.cursor (omega arith) b (member-take count b _ e) in
    available-of memory b p.0 p.1

-- none of them twice
pub met-distinct : (memory : Memory) (count : ℕ) → Distinct (first_met memory count)
unfolding first_met met
met-distinct memory count = distinct-take count _ (round-distinct (is_available memory.sam.words memory.com.words) memory.blocks memory.cursor)

-- as many as are asked, where so many are available
pub met-length : (memory : Memory) (count : ℕ) → memory.cursor < memory.blocks → count ≤ length (available memory)
    → length (first_met memory count) ≡ count
unfolding first_met met available available_blocks
met-length memory count below enough =
    let test = is_available memory.sam.words memory.com.words in
    length-take-le count _ (omega (arith, enough, round-length test memory.blocks memory.cursor (omega arith)))

-- ---- deallocate

pub freeing-valid : (memory : Memory) (s block : ℕ)
    → ValidParts memory
    → memory.pending ≡ Nothing
    → s < length memory.slots
    → is_active (slot_at memory s).state ≡ true
    → sam_bit memory block ≡ true
    → com_bit memory block ≡ true
    → ValidParts (freeing memory s block)
unfolding freeing is_available taken_blocks
freeing-valid memory s block parts nothing h active allocated unfreed =
    turned-valid memory s parts nothing h active (λ b. eqb b block) _ _ memory.reserves
    (λ b inside e. ap (com_bit memory) (eqb-true b block e) ∙ unfreed ∙ sym (ap (sam_bit memory) (eqb-true b block e) ∙ allocated))
    (λ b. cleared b (eqb b block) refl (com_bit memory b))
    (λ b. cleared b (eqb b block) refl (tam_bit (slot_at memory s) b))
    fits
  where
    slot : Slot
    slot = with_tam (slot_at memory s) (volume_bitmap memory (λ b. not (eqb b block) && tam_bit (slot_at memory s) b))

    -- SAM is 1 at the block: it was neither available nor taken, and isn't
    still : (b : ℕ) (t : Bool) → eqb b block ≡ t → sam_bit memory b ≡ false → t ≡ false
    still b true e free = absurd (false≢true (sym free ∙ ap (sam_bit memory) (eqb-true b block e) ∙ allocated))
    still b false e free = refl

    there : (b : ℕ) → b < memory.blocks → available_in memory b ≡ true → available_in (freeing memory s block) b ≡ true
    there b inside e =
        let free = available-free memory.sam.words memory.com.words b e in
        ap₂ (λ (x y : Bool). not x && not y) free
        (bit_below memory.blocks (λ x. not (eqb x block) && com_bit memory x) b parts.few_blocks inside
        ∙ ap₂ (λ (x y : Bool). not x && y) (still b (eqb b block) refl free) (available-unused memory.sam.words memory.com.words b e))

    same : (b : ℕ) → b < memory.blocks → took memory slot b ≡ took memory (slot_at memory s) b
    same b inside =
        took-is memory slot b
        ∙ ap (λ (t : Bool). t && not (sam_bit memory b)) (bit_below memory.blocks (λ x. not (eqb x block) && tam_bit (slot_at memory s) x) b parts.few_blocks inside)
        ∙ go (eqb b block) refl (sam_bit memory b) refl
        ∙ sym (took-is memory (slot_at memory s) b)
      where
        go : (t : Bool) → eqb b block ≡ t → (u : Bool) → sam_bit memory b ≡ u → (not t && tam_bit (slot_at memory s) b && not u) ≡ (tam_bit (slot_at memory s) b && not u)
        go true e true f = sym (and-false (tam_bit (slot_at memory s) b))
        go true e false f = absurd (false≢true (sym (still b true e f)))
        go false e u f = refl

    fits : ReservesFit (freeing memory s block)
    fits =
        changed-fits memory s slot _ memory.reserves parts h (λ t n. refl)
        (omega (arith, parts.reserves_fit.total, as-available memory (freeing memory s block) refl there))
        (λ below.
        omega (
          arith,
          parts.reserves_fit.drawn s below,
          ap {B = ℕ} length (from-same (took memory slot) (took memory (slot_at memory s)) memory.blocks 0 (λ b l inside. same b inside)),
        ))

    cleared : (b : ℕ) (t : Bool) → eqb b block ≡ t → (old : Bool) → (not t && old) ≡ cond t (not (sam_bit memory b)) old
    cleared b true e old = sym (ap not (ap (sam_bit memory) (eqb-true b block e) ∙ allocated))
    cleared b false e old = refl
