-- The blocks that a slot has touched: a commit changes no more words than there are, and no more than W, and some word where there are any.
use Prim.Native.Nat.{ℕ, zero, suc, ◌+◌, ◌*◌, ◌≤◌, ◌<◌}
use native.Mathlib.Nat.{not-suc-le-zero, eq-or-lt_of_le, le_of_suc-le-suc, le_step, le_refl}
use native.Mathlib.Omega.{arith}
use mathlib.Core.Path.{◌≡◌, refl, sym, ap, ap₂, ◌∙◌}
use mathlib.Core.Logic.{◌⊎◌, inl, inr, ⊎_elim}
use mathlib.Core.Bool.{Bool, true, false, not, cond, xor}
use mathlib.Core.List.{List, ◌∷◌}
use lib.ListN.{length, get_or, drop, drop_of_length-le}
use lib.Seq.{drop-cons}
use lib.Dec.{leb, eqb}
use borrow.Author.Tests.{eqb-true, eqb-false, eq-eqb, ne_eqb, le-leb}
use Rattle.bitmap.specs.Sizes.{max_blocks, bitmap_words}
use Rattle.bitmap.specs.Bits.{bit, IsBitmap}
use Rattle.bitmap.specs.Blocks.{scan, from}
use Rattle.bitmap.proofs.Laws.Bits.{word-of-bits, bitmap_of-is, no_bits-bit, no_bits-bitmap_of}
use Rattle.bitmap.proofs.Laws.Blocks.{from-same}
use Rattle.bitmap.proofs.Laws.Count.{count-later, count-here, count_past}
use Rattle.model.specs.Types.{Memory}
use Rattle.model_types.specs.Memory.{slot_at, is_active, sam_bit, volume_words}
use Rattle.model.specs.Rules.Stores.{Store, ◌≔◌, changes_from, changes}
use Rattle.model.specs.Rules.Commit.{committed_sam, entries_of, changed_of}
use Rattle.model.specs.Rules.Touched.{touched, touched_blocks, touched_some}
use Rattle.model.proofs.Laws.Disk.Writes.{no-changes}
use Rattle.model.proofs.Laws.Commit.Changes.{changes-count}
use Rattle.model.proofs.Laws.Memory.Valid.{ValidParts}
use Rattle.model.proofs.Laws.Commit.Commit.{same_or_not, committed-bits}
use Rattle.model.proofs.Laws.Touched.Touches.{xor_self}

-- ---- words and blocks that differ

-- a test holds nowhere below n, or somewhere
none-or-one : (test : ℕ → Bool) (n : ℕ) → ((i : ℕ) → i < n → test i ≡ false) ⊎ ((i : ℕ) × (i < n) × (test i ≡ true))
none-or-one test zero = inl (λ i l. absurd (not-suc-le-zero l))
none-or-one test (suc n) = go (test n) refl (none-or-one test n)
  where
    go : (t : Bool) → test n ≡ t → ((i : ℕ) → i < n → test i ≡ false) ⊎ ((i : ℕ) × (i < n) × (test i ≡ true))
        → ((i : ℕ) → i < suc n → test i ≡ false) ⊎ ((i : ℕ) × (i < suc n) × (test i ≡ true))
    go true e before = inr (n, le_refl (suc n), e)
    go false e (inl none) = inl (λ i l. ⊎_elim (λ q. ap test q ∙ e) (λ h. none i h) (eq-or-lt_of_le (le_of_suc-le-suc l)))
    go false e (inr found) = inr (found.0, le_step found.1, found.2)

module _ (old new : List ℕ) (is_old : IsBitmap old) (is_new : IsBitmap new) where
  abbrev differs : ℕ → Bool
  differs b = xor (bit new b) (bit old b)

  -- a word that changes has a block at which they differ
  differing-block : (k : ℕ) → eqb (get_or old k 0) (get_or new k 0) ≡ false → (i : ℕ) × (i < 32) × (differs (32 * k + i) ≡ true)
  differing-block k e = ⊎_elim (λ none. absurd (eqb-false (get_or old k 0) (get_or new k 0) e (same none))) (λ found. found) (none-or-one (λ i. differs (32 * k + i)) 32)
    where
      same : ((i : ℕ) → i < 32 → differs (32 * k + i) ≡ false) → get_or old k 0 ≡ get_or new k 0
      same none =
          word-of-bits old new k (is_old.small k) (is_new.small k)
          (λ i l. sym (same_or_not (bit new (32 * k + i)) (bit old (32 * k + i)) (none i l)))

  -- so from word k on there are no more changed words than such blocks
  changes-from : (n k : ℕ) → k + n ≡ bitmap_words → length (changes_from k (drop k old) (drop k new)) ≤ length (from differs max_blocks (32 * k))
  unfolding changes_from
  changes-from zero k l =
      omega (arith, ap (λ (words : List ℕ). length (changes_from k words (drop k new))) (drop_of_length-le old {i = k} (omega (arith, is_old.size))))
  changes-from (suc n) k l =
      rw (drop-cons old k 0 (omega (arith, is_old.size)), drop-cons new k 0 (omega (arith, is_new.size)))
      (go (eqb (get_or old k 0) (get_or new k 0)) refl (changes-from n (suc k) (omega arith)))
    where
      rest : List Store
      rest = changes_from (suc k) (drop (suc k) old) (drop (suc k) new)

      next : 32 * k + 32 ≡ 32 * suc k
      next = omega arith

      go : (t : Bool) → eqb (get_or old k 0) (get_or new k 0) ≡ t → length rest ≤ length (from differs max_blocks (32 * suc k))
          → length (cond t rest (k ≔ get_or new k 0 ∷ rest)) ≤ length (from differs max_blocks (32 * k))
      go true e ih = omega (arith, ih, rw next at (count-later differs max_blocks (32 * k) 32 (omega arith)))
      go false e ih =
          let found = differing-block k e in
          omega (arith, ih, rw next at (count-here differs max_blocks (32 * k) 32 found.0 (omega arith) found.1 found.2))

  changes-few : length (changes old new) ≤ length (from differs max_blocks 0)
  changes-few = changes-from bitmap_words 0 (omega arith)

-- ---- a commit

-- a number is at least 1 where another is, if it isn't less and is 0 where that is
some-both : (n m : ℕ) → (m ≡ 0 → n ≡ 0) → m ≤ n → not (eqb n 0) ≡ leb 1 m
some-both n m none few = go (eqb m 0) refl
  where
    go : (t : Bool) → eqb m 0 ≡ t → not (eqb n 0) ≡ leb 1 m
    go true e =
        let z = eqb-true m 0 e in
        rw (eq-eqb n 0 (none z), z)
    go false e =
        let some : 1 ≤ m = omega (arith, eqb-false m 0 e) in
        rw (ne_eqb n 0 (λ z. omega (arith, z, some, few)), le-leb 1 m some)

module _ (memory : Memory) (s : ℕ) (parts : ValidParts memory) (active : is_active (slot_at memory s).state ≡ true) where
  -- it changes no more words than the slot has touched blocks
  pub changed-touched : IsBitmap memory.sam.words → changed_of memory s ≤ length (touched_blocks memory s)
  unfolding changed_of entries_of touched_blocks touched committed_sam xor
  changed-touched is =
      omega (
        arith,
        changes-few memory.sam.words (committed_sam memory s).words is (bitmap_of-is memory.blocks _),
        count_past differ memory.blocks max_blocks parts.few_blocks past,
        ap length (from-same differ (touched memory (slot_at memory s)) memory.blocks 0
            (λ b l h. ap (λ (t : Bool). xor t (sam_bit memory b)) (committed-bits memory parts s active b))),
      )
    where
      differ : ℕ → Bool
      differ b = xor (bit (committed_sam memory s).words b) (sam_bit memory b)

      past : (b : ℕ) → memory.blocks ≤ b → differ b ≡ false
      past b h =
          ap₂ xor
          (no_bits-bit memory.blocks (committed_sam memory s).words b (no_bits-bitmap_of memory.blocks _) h)
          (no_bits-bit memory.blocks memory.sam.words b parts.sam_below h)

  -- and no more than the volume has words
  pub changed-words : changed_of memory s ≤ volume_words memory
  unfolding changed_of entries_of committed_sam
  changed-words =
      changes-count memory.blocks memory.sam.words (committed_sam memory s).words parts.sam_below (no_bits-bitmap_of memory.blocks _)

  -- where it changes none, the slot has touched no block
  none-touched : IsBitmap memory.sam.words → changed_of memory s ≡ 0 → length (touched_blocks memory s) ≡ 0
  unfolding changed_of entries_of touched_blocks touched committed_sam from scan
  none-touched is none = count_past (touched memory (slot_at memory s)) 0 memory.blocks (omega arith) (λ b _. untouched b)
    where
      same : memory.sam.words ≡ (committed_sam memory s).words
      same = no-changes memory.sam.words (committed_sam memory s).words (is.size ∙ sym (bitmap_of-is memory.blocks _).size) none

      untouched : (b : ℕ) → touched memory (slot_at memory s) b ≡ false
      untouched b =
          ap (λ (t : Bool). xor t (sam_bit memory b)) (sym (committed-bits memory parts s active b) ∙ ap (λ (words : List ℕ). bit words b) (sym same))
          ∙ xor_self (sam_bit memory b)

  -- so the slot has touched something just where d is at least 1
  pub touched-some : IsBitmap memory.sam.words → touched_some memory s ≡ leb 1 (changed_of memory s)
  unfolding touched_some
  touched-some is = some-both (length (touched_blocks memory s)) (changed_of memory s) (none-touched is) (changed-touched is)
