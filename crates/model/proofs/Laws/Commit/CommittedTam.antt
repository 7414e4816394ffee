-- In a valid memory the SAM that an active slot's commit makes is the slot's bitmap.
use Prim.Native.Nat.{ℕ}
use mathlib.Core.Path.{◌≡◌, ap}
use mathlib.Core.Bool.{true}
use Rattle.bitmap.specs.Bits.{IsBitmap}
use Rattle.bitmap.proofs.Laws.Bits.{bitmap-ext, bitmap_of-is}
use Rattle.model.specs.Types.{Bitmap, Nothing, Memory}
use Rattle.model_types.specs.Memory.{bitmap, slot_at, is_active, with_pending}
use Rattle.model.specs.Rules.Stores.{changes}
use Rattle.model.specs.Rules.Commit.{committed_sam, entries_of}
use Rattle.model.specs.Rules.Valid.{valid}
use Rattle.model.proofs.Laws.Memory.Valid.{ValidParts, valid-parts}
use Rattle.model.proofs.Laws.Commit.Commit.{committed-bits}

module _ (memory : Memory) (s : ℕ) where
  pub committed-tam : ValidParts memory → IsBitmap (slot_at memory s).tam.words → is_active (slot_at memory s).state ≡ true
      → committed_sam memory s ≡ (slot_at memory s).tam
  unfolding committed_sam
  committed-tam parts is active =
      ap bitmap
      (bitmap-ext (committed_sam memory s).words (slot_at memory s).tam.words (bitmap_of-is memory.blocks _) is
      (λ b h. committed-bits memory parts s active b))

  -- and the words that the commit changes are those at which it differs from SAM
  pub entries-tam : ValidParts memory → IsBitmap (slot_at memory s).tam.words → is_active (slot_at memory s).state ≡ true
      → entries_of memory s ≡ changes memory.sam.words (slot_at memory s).tam.words
  unfolding entries_of
  entries-tam parts is active = ap (λ (sam : Bitmap). changes memory.sam.words sam.words) (committed-tam parts is active)

  -- the same by the test
  pub valid-committed-tam : valid memory ≡ true → IsBitmap (slot_at memory s).tam.words → is_active (slot_at memory s).state ≡ true
      → committed_sam memory s ≡ (slot_at memory s).tam
  valid-committed-tam e = committed-tam (valid-parts memory e)

  pub valid-entries-tam : valid memory ≡ true → IsBitmap (slot_at memory s).tam.words → is_active (slot_at memory s).state ≡ true
      → entries_of memory s ≡ changes memory.sam.words (slot_at memory s).tam.words
  valid-entries-tam e = entries-tam (valid-parts memory e)

-- neither goes by the pending work, so it need not be known to be valid
module _ (memory : Memory) (s : ℕ) where
  pub untested-committed-tam : ValidParts (with_pending memory Nothing) → IsBitmap (slot_at memory s).tam.words
      → is_active (slot_at memory s).state ≡ true
      → committed_sam memory s ≡ (slot_at memory s).tam
  unfolding committed_sam
  untested-committed-tam = committed-tam (with_pending memory Nothing) s

  pub untested-entries-tam : ValidParts (with_pending memory Nothing) → IsBitmap (slot_at memory s).tam.words
      → is_active (slot_at memory s).state ≡ true
      → entries_of memory s ≡ changes memory.sam.words (slot_at memory s).tam.words
  unfolding entries_of committed_sam
  untested-entries-tam = entries-tam (with_pending memory Nothing) s
