-- What the loop over the slots has found after the slots below s.
use Prim.Native.Nat.{ℕ, ◌+◌, ◌≤◌, ◌<◌}
use native.Mathlib.Nat.{not-suc-le-zero}
use native.Mathlib.Numerals.{add-one}
use native.Mathlib.Omega.{arith}
use mathlib.Core.Path.{◌≡◌, refl, sym, ap, ◌∙◌}
use mathlib.Core.Logic.{⊎_elim}
use mathlib.Core.Bool.{Bool, true, false, xor, ◌&&◌, false≢true}
use mathlib.Core.List.{List, [], ◌∷◌, ◌++◌}
use lib.ListN.{take, replicate}
use lib.Seq.{take-suc}
use Rattle.bitmap.specs.Sizes.{bitmap_words, slot_count}
use Rattle.bitmap.specs.Bits.{bit, IsBitmap}
use Rattle.bitmap.proofs.Laws.Bits.{below-or-from}
use Rattle.model_types.specs.declared.memory.Slot.{Slot}
use Rattle.model_types.specs.declared.memory.Memory.{Memory}
use Rattle.model_types.specs.Memory.{idle_slot, slot_at, is_active}
use Rattle.model.specs.Rules.Touched.{touched}
use Rattle.model.specs.Rules.Valid.{same_words, touches}
use Rattle.model.proofs.Laws.Disk.Writes.{same-words}
use Rattle.model.proofs.Laws.Memory.Valid.{touches_block}
use Rattle.model.proofs.Laws.Touched.Touches.{one, differs}
use Rattle.model_types.specs.Shape.{HasShape}
use Rattle.touches.specs.Left.{differ, TouchedTaken}
use Rattle.touches.proofs.Laws.Differ.{differ-is}
use Rattle.validity.proofs.Laws.LeftBits.{bit-differ, left-bits}

-- a slot more, in the order in which the slots are gone over
touches-more : (memory : Memory) (b : ℕ) (slots : List Slot) (slot : Slot)
    → touches memory b (slots ++ (slot ∷ [])) ≡ touches memory b slots + one (touches_block memory slot b)
unfolding touches
touches-more memory b [] slot = omega arith
touches-more memory b (other ∷ slots) slot = omega (arith, touches-more memory b slots slot)

-- each block at which COM differs from SAM is left or touched by one of them, and no other is; those that are idle have
-- empty bitmaps
pub record Passed (memory : Memory) (s : ℕ) (left : List ℕ) : Type 0 where
  pub few : s ≤ slot_count
  pub is : IsBitmap left
  pub counted : (b : ℕ) → touches memory b (take s memory.slots) + one (bit left b) ≡ one (differs memory b)
  pub empty : (k : ℕ) → k < s → is_active (slot_at memory k).state ≡ false → (slot_at memory k).tam.words ≡ replicate bitmap_words 0

pub passed_none : (memory : Memory) → HasShape memory → Passed memory 0 (differ memory.sam.words memory.com.words)
unfolding touches
passed_none memory shape =
    record {
      few = omega arith;
      is = differ-is memory.sam.words memory.com.words shape.sam shape.com;
      counted = λ b. omega (arith, ap one (bit-differ memory.sam.words memory.com.words shape.sam shape.com b));
      empty = λ k l. absurd (not-suc-le-zero l);
    }

-- ---- a slot taken

-- an idle slot's bitmap is to be empty, and what is left stays
pub record IdleTaken (left tam : List ℕ) (r : Bool) (left' : List ℕ) : Type 0 where
  pub answer : r ≡ same_words tam (replicate bitmap_words 0)
  pub rest : left' ≡ left

-- as its state says
pub record SlotTaken (slot : Slot) (left sam : List ℕ) (r : Bool) (left' : List ℕ) : Type 0 where
  pub idle : is_active slot.state ≡ false → IdleTaken left slot.tam.words r left'
  pub active : is_active slot.state ≡ true → TouchedTaken left (differ slot.tam.words sam) r left'

module _ {slot : Slot} {left sam : List ℕ} {r : Bool} {left' : List ℕ} where
  pub idle-taken : is_active slot.state ≡ false → IdleTaken left slot.tam.words r left' → SlotTaken slot left sam r left'
  idle-taken i taken = record { idle = λ _. taken; active = λ a. absurd (false≢true (sym i ∙ a)) }

  pub active-taken : is_active slot.state ≡ true → TouchedTaken left (differ slot.tam.words sam) r left' → SlotTaken slot left sam r left'
  active-taken a taken = record { idle = λ i. absurd (false≢true (sym i ∙ a)); active = λ _. taken }

-- the same slot and answer, under other names
pub taken-same : {slot other : Slot} {left sam left' : List ℕ} {r t : Bool} → slot ≡ other → r ≡ t → SlotTaken slot left sam r left'
    → SlotTaken other left sam t left'
taken-same e f taken = rw (← e, ← f) taken

-- a touch taken from what is left
taken-one : (l t : Bool) → (t ≡ true → l ≡ true) → one t + one (xor l t) ≡ one l
unfolding xor
taken-one true true h = refl
taken-one true false h = refl
taken-one false true h = absurd (false≢true (h refl))
taken-one false false h = refl

module _ (memory : Memory) (s : ℕ) (left left' : List ℕ) (shape : HasShape memory) (below : s < slot_count) (passed : Passed memory s left)
    (taken : SlotTaken (slot_at memory s) left memory.sam.words true left') where
  abbrev slot : Slot
  slot = slot_at memory s

  -- what it has touched
  abbrev touched_words : List ℕ
  touched_words = differ slot.tam.words memory.sam.words

  touched_is : IsBitmap touched_words
  touched_is = differ-is slot.tam.words memory.sam.words (shape.tam s) shape.sam

  next : (b : ℕ) → touches memory b (take (s + 1) memory.slots) ≡ touches memory b (take s memory.slots) + one (touches_block memory slot b)
  next b =
      ap (λ (n : ℕ). touches memory b (take n memory.slots)) (add-one s)
      ∙ ap (touches memory b) (take-suc memory.slots s idle_slot (omega (arith, shape.slots)))
      ∙ touches-more memory b (take s memory.slots) slot

  is-next : (a : Bool) → is_active slot.state ≡ a → IsBitmap left'
  is-next false i = rw (taken.idle i).rest passed.is
  is-next true i = rw (taken.active i).rest (differ-is left touched_words passed.is touched_is)

  counted_next : (a : Bool) → is_active slot.state ≡ a → (b : ℕ)
      → touches memory b (take (s + 1) memory.slots) + one (bit left' b) ≡ one (differs memory b)
  unfolding touched
  counted_next false i b =
      omega (
        arith,
        next b,
        ap (λ (a : Bool). one (a && touched memory slot b)) i,
        ap (λ (words : List ℕ). one (bit words b)) (taken.idle i).rest,
        passed.counted b,
      )
  counted_next true i b =
      let touch : Bool = bit touched_words b in
      omega (
        arith,
        next b,
        ap (λ (a : Bool). one (a && touched memory slot b)) i,
        ap one (bit-differ slot.tam.words memory.sam.words (shape.tam s) shape.sam b),
        ap (λ (words : List ℕ). one (bit words b)) (taken.active i).rest,
        ap one (bit-differ left touched_words passed.is touched_is b),
        taken-one (bit left b) touch (left-bits left touched_words passed.is touched_is (sym (taken.active i).answer) b),
        passed.counted b,
      )

  -- one more slot, taken and found right
  pub passed-more : Passed memory (s + 1) left'
  passed-more = record { few = omega arith; is = is-next (is_active slot.state) refl; counted = counted_next (is_active slot.state) refl; empty = empty }
    where
      empty : (k : ℕ) → k < s + 1 → is_active (slot_at memory k).state ≡ false → (slot_at memory k).tam.words ≡ replicate bitmap_words 0
      empty k h = ⊎_elim (passed.empty k) (λ b. last k (omega arith)) (below-or-from k s)
        where
          last : (k : ℕ) → k ≡ s → is_active (slot_at memory k).state ≡ false → (slot_at memory k).tam.words ≡ replicate bitmap_words 0
          last k e = rw e (λ i. same-words slot.tam.words (replicate bitmap_words 0) (sym (taken.idle i).answer))
