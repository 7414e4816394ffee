-- What a commit does in a valid memory: SAM becomes the slot's bitmap, and what every other slot has touched stays.
use Prim.Native.Nat.{ℕ, ◌≤◌, ◌<◌}
use native.Mathlib.Nat.{not-le_of_lt}
use native.Mathlib.Omega.{arith}
use mathlib.Core.Path.{◌≡◌, refl, sym, ap, ap₂, ◌∙◌}
use mathlib.Core.Logic.{⊎_elim}
use mathlib.Core.Bool.{Bool, true, false, not, cond, xor, ◌&&◌, false≢true, and-not_self}
use Rattle.bitmap.specs.Bits.{bit}
use Rattle.bitmap.specs.Majority.{majority}
use Rattle.bitmap.proofs.Laws.Bits.{bit_below, bit-from, bitmap_of-bits, below-or-from, no_bits-bit}
use Rattle.bitmap.proofs.Laws.Majority.{majority-untouched, majority-touched}
use Rattle.model.specs.Types.{Bitmap, Memory}
use Rattle.model_types.specs.Memory.{slot_at, with_tam, is_active, sam_bit, com_bit, tam_bit, volume_bitmap}
use Rattle.model.specs.Rules.Touched.{touched}
use Rattle.model.specs.Rules.Commit.{committed_sam, refreshed}
use Rattle.model.proofs.Laws.Memory.Valid.{ValidParts, touches_block, touches_at, touches-one, touches-two, slot-below}

pub same_or_not : (a b : Bool) → xor a b ≡ false → a ≡ b
unfolding xor
same_or_not true true e = refl
same_or_not true false e = e
same_or_not false true e = sym e
same_or_not false false e = refl

-- two that differ from a third are the same
pub both-differ : (a b c : Bool) → xor a c ≡ true → xor c b ≡ true → b ≡ a
unfolding xor
both-differ true true c e f = refl
both-differ true false true e f = absurd (false≢true e)
both-differ true false false e f = absurd (false≢true f)
both-differ false true true e f = absurd (false≢true f)
both-differ false true false e f = absurd (false≢true e)
both-differ false false c e f = refl

xor-swap : (a b : Bool) → xor a b ≡ xor b a
unfolding xor
xor-swap true true = refl
xor-swap true false = refl
xor-swap false true = refl
xor-swap false false = refl

module _ (memory : Memory) (parts : ValidParts memory) where
  -- a block that an active slot has touched: COM differs from SAM there
  pub touched-differs : (s b : ℕ) → b < memory.blocks → touches_block memory (slot_at memory s) b ≡ true → xor (sam_bit memory b) (com_bit memory b) ≡ true
  touched-differs s b h e = go (xor (sam_bit memory b) (com_bit memory b)) refl
    where
      go : (t : Bool) → xor (sam_bit memory b) (com_bit memory b) ≡ t → xor (sam_bit memory b) (com_bit memory b) ≡ true
      go true p = p
      go false p =
          absurd
          (not-le_of_lt (touches-one memory b memory.slots s e)
          (omega (arith, touches_at memory b parts.touches_fit h ∙ ap (λ (t : Bool). cond t 1 0) p)))

  -- and no other active slot has touched it
  pub touched-alone : (s t b : ℕ)
      → b < memory.blocks → (t ≡ s → ⊥) → touches_block memory (slot_at memory s) b ≡ true → touches_block memory (slot_at memory t) b ≡ false
  touched-alone s t b h n e = go (touches_block memory (slot_at memory t) b) refl
    where
      once : (u : Bool) → cond u 1 0 ≤ 1
      once true = omega arith
      once false = omega arith

      go : (u : Bool) → touches_block memory (slot_at memory t) b ≡ u → touches_block memory (slot_at memory t) b ≡ false
      go true p =
          absurd
          (not-le_of_lt
          (touches-two memory b memory.slots t s n p e)
          (omega (arith, touches_at memory b parts.touches_fit h, once (xor (sam_bit memory b) (com_bit memory b)))))
      go false p = p

  -- SAM becomes the bitmap of the active slot
  pub committed-bits : (s : ℕ) → is_active (slot_at memory s).state ≡ true → (b : ℕ) → bit (committed_sam memory s).words b ≡ tam_bit (slot_at memory s) b
  unfolding committed_sam touched
  committed-bits s active b = ⊎_elim (λ (h : b < memory.blocks). inside h) (λ (h : memory.blocks ≤ b). outside h) (below-or-from b memory.blocks)
    where
      bits : ℕ → Bool
      bits x = majority (sam_bit memory x) (com_bit memory x) (tam_bit (slot_at memory s) x)

      outside : memory.blocks ≤ b → bit (committed_sam memory s).words b ≡ tam_bit (slot_at memory s) b
      outside h = bit-from memory.blocks bits b h ∙ sym (no_bits-bit memory.blocks (slot_at memory s).tam.words b (slot-below memory s parts) h)

      go : b < memory.blocks → (t : Bool) → xor (tam_bit (slot_at memory s) b) (sam_bit memory b) ≡ t → bits b ≡ tam_bit (slot_at memory s) b
      go h true e =
          let differs = touched-differs s b h (ap₂ ◌&&◌ active e) in
          let same = both-differ (tam_bit (slot_at memory s) b) (com_bit memory b) (sam_bit memory b) e differs in
          ap (λ (t : Bool). majority (sam_bit memory b) t (tam_bit (slot_at memory s) b)) same ∙ majority-touched (sam_bit memory b) (tam_bit (slot_at memory s) b)
      go h false e =
          let same = same_or_not (tam_bit (slot_at memory s) b) (sam_bit memory b) e in
          ap (majority (sam_bit memory b) (com_bit memory b)) same ∙ majority-untouched (sam_bit memory b) (com_bit memory b) ∙ sym same

      inside : b < memory.blocks → bit (committed_sam memory s).words b ≡ tam_bit (slot_at memory s) b
      inside h = bit_below memory.blocks bits b parts.few_blocks h ∙ go h (xor (tam_bit (slot_at memory s) b) (sam_bit memory b)) refl

  -- the bits of another active slot after the commit: the new SAM's where the commit changed SAM
  pub refreshed-bits : (new : Bitmap) (t : ℕ)
      → is_active (slot_at memory t).state ≡ true
      → ((b : ℕ) → memory.blocks ≤ b → bit new.words b ≡ false)
      → (b : ℕ)
      → tam_bit (refreshed memory new (slot_at memory t)) b ≡ cond (xor (sam_bit memory b) (bit new.words b)) (bit new.words b) (tam_bit (slot_at memory t) b)
  unfolding refreshed
  refreshed-bits new t active below b =
      ap (λ (u : Bool). tam_bit (cond u (with_tam (slot_at memory t) (volume_bitmap memory bits)) (slot_at memory t)) b) active
      ∙ bitmap_of-bits memory.blocks bits parts.few_blocks outside b
    where
      bits : ℕ → Bool
      bits x = cond (xor (sam_bit memory x) (bit new.words x)) (bit new.words x) (tam_bit (slot_at memory t) x)

      outside : (x : ℕ) → memory.blocks ≤ x → bits x ≡ false
      outside x h = go (xor (sam_bit memory x) (bit new.words x))
        where
          go : (u : Bool) → cond u (bit new.words x) (tam_bit (slot_at memory t) x) ≡ false
          go true = below x h
          go false = no_bits-bit memory.blocks (slot_at memory t).tam.words x (slot-below memory t parts) h

  -- what another slot has taken or freed stays as it is: it takes part in none of the blocks that the commit changed
  pub others-kept : (s t b : ℕ)
      → (t ≡ s → ⊥)
      → is_active (slot_at memory s).state ≡ true
      → is_active (slot_at memory t).state ≡ true
      → (new : Bool)
      → new ≡ tam_bit (slot_at memory s) b
      → (tam : Bool)
      → tam ≡ cond (xor (sam_bit memory b) new) new (tam_bit (slot_at memory t) b)
      → ((tam && not new) ≡ (tam_bit (slot_at memory t) b && not (sam_bit memory b)))
      × ((new && not tam) ≡ (sam_bit memory b && not (tam_bit (slot_at memory t) b)))
  unfolding touched xor
  others-kept s t b n active other new e tam f =
      ⊎_elim (λ (h : b < memory.blocks). go h (xor (sam_bit memory b) new) refl) (λ (h : memory.blocks ≤ b). outside h) (below-or-from b memory.blocks)
    where
      sam : Bool
      sam = sam_bit memory b

      old : Bool
      old = tam_bit (slot_at memory t) b

      Kept : Type 0
      Kept = ((tam && not new) ≡ (old && not sam)) × ((new && not tam) ≡ (sam && not old))

      -- both new and old bits are the same for SAM and for the slot
      equal : (a x c y : Bool) → a ≡ x → c ≡ y → ((a && not x) ≡ (c && not y)) × ((x && not a) ≡ (y && not c))
      equal a x c y p q = (
        ap (λ (u : Bool). u && not x) p ∙ and-not_self x ∙ sym (ap (λ (u : Bool). u && not y) q ∙ and-not_self y),
        ap (λ (u : Bool). x && not u) p ∙ and-not_self x ∙ sym (ap (λ (u : Bool). y && not u) q ∙ and-not_self y),
      )

      go : b < memory.blocks → (u : Bool) → xor sam new ≡ u → Kept
      go h true p =
          let touches-it : touches_block memory (slot_at memory s) b ≡ true =
          ap₂ ◌&&◌ active (ap (λ (u : Bool). xor u sam) (sym e) ∙ xor-swap new sam ∙ p) in
          let alone = touched-alone s t b h n touches-it in
          let untouched : xor old sam ≡ false = sym (ap (λ (u : Bool). u && xor old sam) other) ∙ alone in
          equal tam new old sam (f ∙ ap (λ (u : Bool). cond u new old) p) (same_or_not old sam untouched)
      go h false p =
          let same : sam ≡ new = same_or_not sam new p in
          let kept : tam ≡ old = f ∙ ap (λ (u : Bool). cond u new old) p in
          (ap₂ (λ (x y : Bool). x && not y) kept (sym same), ap₂ (λ (x y : Bool). x && not y) (sym same) kept)

      outside : memory.blocks ≤ b → Kept
      outside h =
          let no-sam : sam ≡ false = no_bits-bit memory.blocks memory.sam.words b parts.sam_below h in
          let no-new : new ≡ false = e ∙ no_bits-bit memory.blocks (slot_at memory s).tam.words b (slot-below memory s parts) h in
          let no_old : old ≡ false = no_bits-bit memory.blocks (slot_at memory t).tam.words b (slot-below memory t parts) h in
          let kept : tam ≡ old = f ∙ ap₂ (λ (x y : Bool). cond (xor x y) y old) no-sam no-new in
          equal tam new old sam (kept ∙ no_old ∙ sym no-new) (no_old ∙ sym no-sam)
