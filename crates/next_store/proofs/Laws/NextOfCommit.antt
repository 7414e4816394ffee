-- The next store of a commit from one bitmap to the next.
use Prim.Native.Nat.{ℕ, ◌+◌, ◌*◌, ◌/◌, ◌%◌, ◌<◌}
use mathlib.Core.Path.{◌≡◌, ◌∙◌}
use mathlib.Core.Bool.{Bool, true, false, cond}
use mathlib.Core.List.{List}
use native.Mathlib.Omega.{arith}
use lib.ListN.{length}
use lib.Dec.{eqb}
use borrow.Author.Tests.{eq-eqb, ne_eqb}
use Rattle.bitmap.specs.Sizes.{bitmap_words}
use Rattle.model.specs.Rules.Sizes.{length_at, bitmap_at, log_at}
use Rattle.model.specs.Rules.Stores.{◌≔◌, changes, commit_stores}
use Rattle.model.proofs.Laws.Commit.Changes.{changes-length}
use Rattle.disk_log.specs.declared.phase.Phase.TheVariants.{Point, Word, Closing}
use Rattle.disk_log.specs.Phase.{InPhase}
use Rattle.next_store.specs.Next.{IsChange, IsNext}
use Rattle.next_store.proofs.Laws.NextStore.{next-log, next-point, next_word, next_last}

module _ (old new : List ℕ) (o : length old ≡ bitmap_words) (done : ℕ) {number contents : ℕ} (h : done < 2 * length (changes old new))
    (c : IsChange old new (done / 2) number contents) where
  -- a word of the log
  logged : (t : Bool) → eqb (done % 2) 0 ≡ t → IsNext (commit_stores (changes old new)) done (log_at + done) (cond t number contents)
  logged t e =
      record {
        within = omega (arith, changes-length old new);
        next = next-log (changes old new) done (number ≔ contents) c.entry ∙ rw e;
      }

  pub logged_number : done % 2 ≡ 0 → IsNext (commit_stores (changes old new)) done (log_at + done) number
  logged_number e = logged true (eq-eqb (done % 2) 0 e)

  pub logged_contents : (done % 2 ≡ 0 → ⊥) → IsNext (commit_stores (changes old new)) done (log_at + done) contents
  logged_contents n = logged false (ne_eqb (done % 2) 0 n)

module _ (old new : List ℕ) {changed : ℕ} (changed_is : changed ≡ length (changes old new)) (done : ℕ) where
  -- the commit point
  pub point_next : InPhase changed done Point → IsNext (commit_stores (changes old new)) done length_at changed
  point_next is =
      record { within = omega arith; next = next-point (changes old new) done (omega (arith, changed_is)) ∙ rw changed_is }

  -- a changed word
  pub word_next : (i : ℕ) {number contents : ℕ} → InPhase changed done (Word i) → IsChange old new i number contents
      → IsNext (commit_stores (changes old new)) done (bitmap_at + number) contents
  word_next i {number} {contents} (at, _) is =
      record {
        within = omega (arith, is.within);
        next = next_word (changes old new) done i (number ≔ contents) (omega (arith, changed_is)) is.entry;
      }

  -- word 1 to 0
  pub last_next : InPhase changed done Closing → IsNext (commit_stores (changes old new)) done length_at 0
  last_next is =
      record { within = omega arith; next = next_last (changes old new) done changed (omega (arith, changed_is)) changed_is }
