-- The log words of a disk while a commit is stored: entry by entry, and all at once.
use Prim.Native.Nat.{ℕ, zero, suc, ◌+◌, ◌-◌, ◌*◌, ◌≤◌, ◌<◌}
use mathlib.Core.Path.{◌≡◌, refl, sym, ap, ap₂, ◌∙◌}
use mathlib.Core.Bool.{Bool, true, false, cond, ◌&&◌, and_assoc}
use mathlib.Core.List.{List, [], ◌∷◌}
use native.Mathlib.Numerals.{add-one}
use native.Mathlib.Omega.{arith}
use lib.ListN.{length, get_or, take, drop}
use lib.Seq.{take-nil, drop-cons}
use lib.Dec.{leb, eqb}
use borrow.Author.Tests.{eq-eqb, lt-leb}
use Rattle.model.specs.Rules.Sizes.{log_at}
use Rattle.model.specs.Rules.Stores.{Store, writes, log_stores}
use Rattle.model.specs.Rules.Valid.{same_words}
use Rattle.model.proofs.Laws.Disk.Writes.{words_same}
use Rattle.model.proofs.Laws.Disk.Places.{writes-shift, shift}
use Rattle.model.proofs.Laws.Disk.StoreLists.{log_stores-from, take-map}
use Rattle.disk_match.specs.Matching.{entry_written}
use Rattle.disk_log.proofs.Laws.Tests.{and_right, leb-same}

-- whether the words of the entries from i on are as the stores done leave them
unfoldable pub log_matches : List ℕ → ℕ → ℕ → List Store → Bool
log_matches disk done i [] = true
log_matches disk done i (entry ∷ entries) = entry_written disk done i entry.place entry.value && log_matches disk done (suc i) entries

-- the log words after the first of its stores
abbrev pub written : ℕ → List Store → List ℕ → List ℕ
written n entries log = writes (take n (log_stores 0 entries)) log

-- two more stores are one more entry
written-more : (n : ℕ) (e : Store) (es : List Store) (x y : ℕ) (log : List ℕ)
    → written (suc (suc n)) (e ∷ es) (x ∷ y ∷ log) ≡ e.place ∷ e.value ∷ written n es log
unfolding log_stores writes
written-more n e es x y log =
    ap (λ (s : List Store). writes s (e.place ∷ e.value ∷ log)) (ap (take n) (log_stores-from 2 es) ∙ take-map (shift 2) n (log_stores 0 es))
    ∙ writes-shift (e.place ∷ e.value ∷ []) 2 (take n (log_stores 0 es)) log refl

-- the words of an entry, and the log words behind them, are as n more stores leave them
entry-same : (n : ℕ) (e : Store) (es : List Store) (x y : ℕ) (log : List ℕ)
    → same_words (x ∷ y ∷ log) (written n (e ∷ es) (x ∷ y ∷ log))
    ≡ (cond (leb n 0) true (eqb x e.place && cond (leb n 1) true (eqb y e.value)) && same_words log (written (n - 2) es log))
unfolding same_words log_stores writes
entry-same zero e es x y log = rw (eq-eqb x x refl, eq-eqb y y refl)
entry-same (suc zero) e es x y log = rw (eq-eqb y y refl, words_same log) (sym (and_right _ refl))
entry-same (suc (suc n)) e es x y log =
    let zero_left : leb (suc (suc n)) 0 ≡ false = lt-leb (suc (suc n)) 0 (omega arith) in
    let one_left : leb (suc (suc n)) 1 ≡ false = lt-leb (suc (suc n)) 1 (omega arith) in
    let two-less : suc (suc n) - 2 ≡ n = omega arith in
    ap (same_words (x ∷ y ∷ log)) (written-more n e es x y log)
    ∙ sym (and_assoc (eqb x e.place) (eqb y e.value) (same_words log (written n es log)))
    ∙ rw (zero_left, one_left, two-less)

-- the next two words
two-words : (disk : List ℕ) (at : ℕ) → at + 1 < length disk → drop at disk ≡ get_or disk at 0 ∷ get_or disk (at + 1) 0 ∷ drop (at + 2) disk
two-words disk at h =
    drop-cons disk at 0 (omega arith)
    ∙ ap (λ (n : ℕ). get_or disk at 0 ∷ drop n disk) (sym (add-one at))
    ∙ ap {B = List ℕ} (λ r. get_or disk at 0 ∷ r) (drop-cons disk (at + 1) 0 h)
    ∙ (let e : suc (at + 1) ≡ at + 2 = omega arith in rw e)

-- the test of an entry, by how many of its stores and those behind it are done
entry-written : (disk : List ℕ) (done i number contents : ℕ) → entry_written disk done i number contents
    ≡ cond (leb (done - 2 * i) 0) true (eqb (get_or disk (log_at + 2 * i) 0) number && cond (leb (done - 2 * i) 1) true (eqb (get_or disk (log_at + 2 * i + 1) 0) contents))
unfolding entry_written
entry-written disk done i number contents =
    let none : leb done (2 * i) ≡ leb (done - 2 * i) 0 = leb-same done (2 * i) (done - 2 * i) 0 (λ l. omega arith) (λ l. omega arith) in
    let one : leb done (2 * i + 1) ≡ leb (done - 2 * i) 1 = leb-same done (2 * i + 1) (done - 2 * i) 1 (λ l. omega arith) (λ l. omega arith) in
    rw (none, one)

-- the tests of the entries are the test of the log words
pub log-matches : (disk : List ℕ) (done i : ℕ) (es : List Store) → log_at + 2 * i + 2 * length es ≤ length disk
    → log_matches disk done i es ≡ same_words (drop (log_at + 2 * i) disk) (written (done - 2 * i) es (drop (log_at + 2 * i) disk))
unfolding log_matches log_stores writes
log-matches disk done i [] h = rw (take-nil {A = Store} (done - 2 * i)) (sym (words_same (drop (log_at + 2 * i) disk)))
log-matches disk done i (e ∷ es) h =
    let at : ℕ = log_at + 2 * i in
    let next : log_at + 2 * suc i ≡ at + 2 = omega arith in
    let left : done - 2 * suc i ≡ done - 2 * i - 2 = omega arith in
    ap₂ ◌&&◌
    (entry-written disk done i e.place e.value)
    (log-matches disk done (suc i) es (omega arith)
    ∙ ap₂ (λ (n m : ℕ). same_words (drop n disk) (written m es (drop n disk))) next left)
    ∙ sym (entry-same (done - 2 * i) e es (get_or disk at 0) (get_or disk (at + 1) 0) (drop (at + 2) disk))
    ∙ ap (λ (log : List ℕ). same_words log (written (done - 2 * i) (e ∷ es) log)) (sym (two-words disk at (omega arith)))
