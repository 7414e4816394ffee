-- A disk compared as a whole: the tests by which it is as SAM, or as a commit's stores, leave it.
use Prim.Native.Nat.{ℕ, ◌+◌, ◌-◌, ◌*◌, ◌≤◌}
use mathlib.Core.Path.{◌≡◌, sym, ap, ap₂, subst, ◌∙◌}
use mathlib.Core.Bool.{Bool, ◌&&◌, and_assoc}
use mathlib.Core.List.{List, []}
use native.Mathlib.Nat.{sub-zero}
use native.Mathlib.Omega.{arith}
use lib.ListN.{length, take, drop}
use lib.Seq.{take_all}
use lib.Dec.{eqb}
use Rattle.bitmap.specs.Sizes.{bitmap_words}
use Rattle.model.specs.Rules.Sizes.{disk_words, bitmap_at, log_at}
use Rattle.model.specs.Rules.Stores.{Store, writes, changes, log_stores, commit_stores}
use Rattle.model.specs.Rules.Valid.{same_words}
use Rattle.model.specs.Rules.Disk.{length_in, disk_blocks, log_length, disk_bitmap, disk_of, image_matches}
use Rattle.model.proofs.Laws.Disk.Writes.{length-writes, words_same}
use Rattle.model.proofs.Laws.Disk.StoreLists.{length-log_stores}
use Rattle.model.proofs.Laws.Commit.Changes.{changes-length}
use Rattle.model.proofs.Laws.Disk.Parts.{disk-parts, disk-bitmap-length, disk-tail-length}
use Rattle.model.proofs.Laws.Disk.CommitLog.{CommitFrom, changes-from, commit_disk, commit-before, commit-after}
use Rattle.disk_log.specs.declared.phase.Phase.{Phase}
use Rattle.disk_log.specs.declared.phase.Phase.TheVariants.{Log, Point, Word, Closing}
use Rattle.disk_log.specs.Phase.{InPhase, log_length_in, checkpointed_in}
use Rattle.disk_log.proofs.Laws.Tests.{and_right, same-append}
use Rattle.disk_match.specs.Matching.{head_is, kept_match, changed_match}
use Rattle.disk_match.proofs.Laws.Checkpointed.{checkpoint, checkpoint-changes}
use Rattle.disk_match.proofs.Laws.LogWords.{log-matches}
use Rattle.disk_match.proofs.Laws.Matching.{words-match}

-- a disk compared part by part
disk-same : (disk : List ℕ) (blocks p : ℕ) (words log : List ℕ) → length disk ≡ disk_words → length words ≡ bitmap_words
    → same_words disk (disk_of blocks p words log)
    ≡ (head_is disk blocks p && (same_words (disk_bitmap disk) words && same_words (drop log_at disk) log))
unfolding same_words length_in
disk-same disk blocks p words log l m =
    ap (λ (d : List ℕ). same_words d (disk_of blocks p words log)) (disk-parts disk (omega arith))
    ∙ ap (λ (t : Bool). eqb (disk_blocks disk) blocks && (eqb (log_length disk) p && t))
    (same-append (disk_bitmap disk) (drop log_at disk) words log (disk-bitmap-length disk l ∙ sym m))
    ∙ sym (and_assoc (eqb (disk_blocks disk) blocks) (eqb (log_length disk) p) (same_words (disk_bitmap disk) words && same_words (drop log_at disk) log))

-- the disk after any number of a commit's stores but all, by its parts
commit-parts : (blocks : ℕ) (sam log : List ℕ) (es : List Store) (done : ℕ) (phase : Phase) → CommitFrom sam log es → InPhase (length es) done phase
    → commit_disk blocks sam log es done
    ≡ disk_of blocks (log_length_in phase (length es)) (writes (take (checkpointed_in phase (length es)) es) sam) (writes (take done (log_stores 0 es)) log)
unfolding writes
commit-parts blocks sam log es done phase from = go phase
  where
    d : ℕ
    d = length es

    -- past the commit point the log is whole
    past : (i : ℕ) → done ≡ 2 * d + 1 + i → i ≤ d → commit_disk blocks sam log es done ≡ disk_of blocks d (writes (take i es) sam) (writes (take done (log_stores 0 es)) log)
    past i at few =
        let all : take done (log_stores 0 es) ≡ log_stores 0 es = take_all done (log_stores 0 es) (omega (arith, length-log_stores 0 es)) in
        let words : done - (2 * d + 1) ≡ i = omega arith in
        commit-after blocks sam log es from done (omega arith) (omega arith) ∙ rw (all, words)

    go : (phase : Phase) → InPhase d done phase → commit_disk blocks sam log es done
        ≡ disk_of blocks (log_length_in phase d) (writes (take (checkpointed_in phase d) es) sam) (writes (take done (log_stores 0 es)) log)
    go Log is = commit-before blocks sam log es from done (omega arith)
    go Point is = commit-before blocks sam log es from done (omega arith)
    go (Word i) (at, few) = past i at (omega arith)
    go Closing is = past d is (omega arith)

-- while a commit is stored: words 0 and 1, the bitmap words that stay, and those that change with the log's
pub commit-tests : (blocks : ℕ) (disk sam new : List ℕ) {changed : ℕ} (done : ℕ) (phase : Phase) → length disk ≡ disk_words → length sam ≡ bitmap_words
    → length new ≡ bitmap_words
    → changed ≡ length (changes sam new)
    → InPhase changed done phase
    → image_matches blocks sam disk done (commit_stores (changes sam new))
    ≡ (head_is disk blocks (log_length_in phase changed)
    && kept_match disk 0 sam new
    && changed_match disk done (checkpointed_in phase changed) 0 0 sam new)
unfolding image_matches
commit-tests blocks disk sam new {changed} done phase l s n changed_is is =
    ap (same_words disk) (commit-parts blocks sam log es done phase (changes-from sam new log s (disk-tail-length disk l)) (subst (λ (n : ℕ). InPhase n done phase) changed_is is))
    ∙ disk-same
    disk
    blocks
    (log_length_in phase (length es))
    (writes (take checkpointed es) sam)
    (writes (take done (log_stores 0 es)) log)
    l
    (length-writes (take checkpointed es) sam ∙ s)
    ∙ ap (λ (t : Bool). head_is disk blocks (log_length_in phase (length es)) && t) (sym words)
    ∙ sym (and_assoc (head_is disk blocks (log_length_in phase (length es))) (kept_match disk 0 sam new) (changed_match disk done checkpointed 0 0 sam new))
    ∙ rw changed_is
  where
    log : List ℕ
    log = drop log_at disk

    es : List Store
    es = changes sam new

    checkpointed : ℕ
    checkpointed = checkpointed_in phase (length es)

    words : (kept_match disk 0 sam new && changed_match disk done checkpointed 0 0 sam new)
        ≡ (same_words (disk_bitmap disk) (writes (take checkpointed es) sam) && same_words log (writes (take done (log_stores 0 es)) log))
    words =
        words-match disk done checkpointed 0 0 sam new (s ∙ sym n) (omega arith)
        ∙ ap₂ ◌&&◌
        (ap₂
        (λ (n : ℕ) (w : List ℕ). same_words (take n (drop bitmap_at disk)) w)
        s
        (ap (λ (n : ℕ). checkpoint n sam new) (sub-zero checkpointed) ∙ sym (checkpoint-changes checkpointed sam new)))
        (log-matches disk done 0 es (omega (arith, changes-length sam new))
        ∙ ap (λ (n : ℕ). same_words log (writes (take n (log_stores 0 es)) log)) (sub-zero done))

-- with nothing pending: words 0 and 1, and the bitmap. Its log words mean nothing
pub settled-tests : (blocks : ℕ) (disk sam : List ℕ) → length disk ≡ disk_words → length sam ≡ bitmap_words
    → image_matches blocks sam disk 0 [] ≡ (head_is disk blocks 0 && same_words (disk_bitmap disk) sam)
unfolding image_matches writes
settled-tests blocks disk sam l s =
    disk-same disk blocks 0 sam (drop log_at disk) l s
    ∙ ap (λ (t : Bool). head_is disk blocks 0 && t) (and_right (same_words (disk_bitmap disk) sam) (words_same (drop log_at disk)))
