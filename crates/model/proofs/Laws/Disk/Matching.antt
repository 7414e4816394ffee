-- A disk that is as the memory and its stores done leave it: by the kind of work, where no store is made, with nothing pending, and in
-- recovery.
use Prim.Native.Nat.{ℕ, ◌+◌}
use mathlib.Core.Path.{◌≡◌, refl, sym, ap, ap₂, ◌∙◌}
use mathlib.Core.Bool.{true, ◌&&◌}
use mathlib.Core.List.{List, []}
use lib.ListN.{length, drop}
use lib.Dec.{eqb}
use borrow.Author.Tests.{eqb-true, eq-eqb}
use Rattle.bitmap.specs.Sizes.{bitmap_words}
use Rattle.bitmap.specs.Bits.{no_bits_from}
use Rattle.model.specs.Types.{Nothing, Commit, Recovery, Memory}
use Rattle.model_types.specs.Memory.{with_pending}
use Rattle.model.specs.Rules.Sizes.{log_at}
use Rattle.model.specs.Rules.Stores.{Store, writes, after, commit_stores, checkpoint_stores}
use Rattle.model.specs.Rules.Commit.{entries_of}
use Rattle.model.specs.Rules.Pending.{new_sam}
use Rattle.model.specs.Rules.Valid.{same_words}
use Rattle.model.specs.Rules.Disk.{disk_blocks, log_length, disk_bitmap, disk_of, base_image, durable, log_entries, log_valid, entries_agree, recovery_matches, image_matches, stores_match, stores_of, parts_match, due_stores, disk_matches}
use Rattle.model.proofs.Laws.Disk.Writes.{and_both, and_first, and_second, same-words, words_same}
use Rattle.model.proofs.Laws.Disk.Parts.{none_told, disk_of-bitmap, disk_of-tail, disk_of-quiet}

-- ---- by the kind of work

module _ (memory : Memory) (disk : List ℕ) where
  pub rest-stores : due_stores memory disk Nothing ≡ []
  unfolding due_stores stores_of
  rest-stores = refl

  pub rest-matches : disk_matches memory disk Nothing ≡ image_matches memory.blocks memory.sam.words disk 0 []
  unfolding disk_matches parts_match stores_match stores_of
  rest-matches = refl

  module _ (s done due : ℕ) where
    pub commit-stores : due_stores memory disk (Commit s done due) ≡ commit_stores (entries_of memory s)
    unfolding due_stores stores_of new_sam entries_of
    commit-stores = refl

    pub commit-matches : disk_matches memory disk (Commit s done due)
        ≡ image_matches memory.blocks memory.sam.words disk done (commit_stores (entries_of memory s))
    unfolding disk_matches parts_match stores_match stores_of new_sam entries_of
    commit-matches = refl

  module _ (done due : ℕ) where
    pub recovery-stores : due_stores memory disk (Recovery done due) ≡ checkpoint_stores (log_entries disk)
    unfolding due_stores stores_of
    recovery-stores = refl

    pub recovery-matches : disk_matches memory disk (Recovery done due) ≡ recovery_matches memory.blocks memory.sam.words disk done due
    unfolding disk_matches parts_match stores_match
    recovery-matches = refl

-- ---- by the image of the stores done

module _ (blocks : ℕ) (sam disk : List ℕ) (done : ℕ) (stores : List Store) where
  pub image-is : image_matches blocks sam disk done stores ≡ true → disk ≡ after done stores (base_image blocks sam disk)
  unfolding image_matches
  image-is e = same-words disk (after done stores (base_image blocks sam disk)) e

  pub is-image : after done stores (base_image blocks sam disk) ≡ disk → image_matches blocks sam disk done stores ≡ true
  unfolding image_matches
  is-image e = ap (same_words disk) e ∙ words_same disk

-- no store is done
pub none_done : (blocks : ℕ) (sam disk : List ℕ) (stores : List Store) → image_matches blocks sam disk 0 stores ≡ image_matches blocks sam disk 0 []
unfolding image_matches
none_done blocks sam disk stores = refl

-- ---- calls that make no store

-- with nothing pending a disk that matches a memory matches every other of the same block count and SAM
pub matches-stays : (memory other : Memory) (disk : List ℕ) → memory.pending ≡ Nothing → other.pending ≡ Nothing
    → other.blocks ≡ memory.blocks
    → other.sam.words ≡ memory.sam.words
    → disk_matches memory disk memory.pending ≡ true
    → disk_matches other disk other.pending ≡ true
matches-stays memory other disk before after blocks sam matches =
    ap (disk_matches other disk) after
    ∙ rest-matches other disk
    ∙ ap₂ (λ (n : ℕ) (words : List ℕ). image_matches n words disk 0 []) blocks sam
    ∙ sym (rest-matches memory disk)
    ∙ sym (ap (disk_matches memory disk) before)
    ∙ matches

-- and it matches a commit just begun
pub matches-begun : (memory : Memory) (disk : List ℕ) (s due : ℕ) → memory.pending ≡ Nothing → disk_matches memory disk memory.pending ≡ true
    → disk_matches (with_pending memory (Commit s 0 due)) disk (Commit s 0 due) ≡ true
matches-begun memory disk s due before matches =
    commit-matches (with_pending memory (Commit s 0 due)) disk s 0 due
    ∙ none_done memory.blocks memory.sam.words disk _
    ∙ sym (rest-matches memory disk)
    ∙ sym (ap (disk_matches memory disk) before)
    ∙ matches

-- ---- nothing pending

-- the words from the log on mean nothing
pub quiet-matches : (disk : List ℕ) (blocks : ℕ) (words tail : List ℕ) → length words ≡ bitmap_words → disk ≡ disk_of blocks 0 words tail
    → image_matches blocks words disk 0 [] ≡ true
unfolding writes
quiet-matches disk blocks words tail size e =
    is-image blocks words disk 0 [] (ap (disk_of blocks 0 words) (ap (drop log_at) e ∙ disk_of-tail blocks 0 words tail size) ∙ sym e)

-- then the disk stands for its own bitmap
pub quiet-durable : (blocks : ℕ) (sam disk : List ℕ) → length sam ≡ bitmap_words → image_matches blocks sam disk 0 [] ≡ true
    → durable disk ≡ disk_bitmap disk
unfolding writes
quiet-durable blocks sam disk size e =
    let is : disk ≡ base_image blocks sam disk = image-is blocks sam disk 0 [] e in
    ap durable is
    ∙ disk_of-quiet blocks 0 sam (drop log_at disk) size none_told
    ∙ sym (ap (λ (d : List ℕ). disk_bitmap d) is ∙ disk_of-bitmap blocks 0 sam (drop log_at disk) size)

-- ---- in recovery, part by part

pub record RecoveryMatches (blocks : ℕ) (sam disk : List ℕ) (done due : ℕ) : Type 0 where
  pub blocks_is : disk_blocks disk ≡ blocks
  pub due_is : log_length disk + 1 ≡ due
  pub log : log_valid disk ≡ true
  pub agrees : entries_agree sam (log_entries disk) ≡ true
  pub no_bits : no_bits_from blocks (disk_bitmap disk) ≡ true
  pub rest : writes (drop done (log_entries disk)) (disk_bitmap disk) ≡ sam

module _ (blocks : ℕ) (sam disk : List ℕ) (done due : ℕ) where
  pub matching-parts : recovery_matches blocks sam disk done due ≡ true → RecoveryMatches blocks sam disk done due
  unfolding recovery_matches
  matching-parts e =
      let e4 = and_first _ (same_words (writes (drop done (log_entries disk)) (disk_bitmap disk)) sam) e in
      let e3 = and_first _ (no_bits_from blocks (disk_bitmap disk)) e4 in
      let e2 = and_first _ (entries_agree sam (log_entries disk)) e3 in
      let e1 = and_first _ (log_valid disk) e2 in
      let e0 = and_first (eqb (disk_blocks disk) blocks) (eqb (log_length disk + 1) due) e1 in
      record {
        blocks_is = eqb-true (disk_blocks disk) blocks e0;
        due_is = eqb-true (log_length disk + 1) due (and_second (eqb (disk_blocks disk) blocks) _ e1);
        log = and_second (eqb (disk_blocks disk) blocks && eqb (log_length disk + 1) due) _ e2;
        agrees = and_second (eqb (disk_blocks disk) blocks && eqb (log_length disk + 1) due && log_valid disk) _ e3;
        no_bits =
            and_second
            (eqb (disk_blocks disk) blocks && eqb (log_length disk + 1) due && log_valid disk && entries_agree sam (log_entries disk))
            _
            e4;
        rest =
            same-words (writes (drop done (log_entries disk)) (disk_bitmap disk)) sam
            (and_second
            (eqb (disk_blocks disk) blocks
            && eqb (log_length disk + 1) due
            && log_valid disk
            && entries_agree sam (log_entries disk)
            && no_bits_from blocks (disk_bitmap disk))
            _
            e);
      }

  pub parts-matching : RecoveryMatches blocks sam disk done due → recovery_matches blocks sam disk done due ≡ true
  unfolding recovery_matches
  parts-matching m =
      and_both
      (and_both
      (and_both
      (and_both
      (and_both (eq-eqb (disk_blocks disk) blocks m.blocks_is) (eq-eqb (log_length disk + 1) due m.due_is))
      m.log)
      m.agrees)
      m.no_bits)
      (ap (λ (words : List ℕ). same_words words sam) m.rest ∙ words_same sam)
