-- The next store of a commit and of a recovery, phase by phase.
use Prim.Native.Nat.{ℕ, zero, suc, ◌+◌, ◌-◌, ◌*◌, ◌/◌, ◌%◌, ◌≤◌, ◌<◌}
use mathlib.Core.Path.{◌≡◌, refl, sym, ap, ◌∙◌}
use mathlib.Core.Bool.{cond}
use mathlib.Core.List.{List, [], ◌∷◌, ◌++◌, map}
use native.Mathlib.Nat.{add-zero}
use native.Mathlib.Omega.{arith}
use lib.ListN.{length, get_or, take, drop, set, length-drop, length-map}
use lib.Seq.{take-append-le, drop-append-le, drop-append-add, drop_at, drop-cons}
use lib.Dec.{eqb}
use Rattle.model.specs.Rules.Sizes.{disk_words, length_at, bitmap_at, log_at}
use Rattle.model.specs.Rules.Stores.{Store, ◌≔◌, writes, log_stores, on_disk, checkpoint_with, journal_with, checkpoint_stores, commit_stores}
use Rattle.model.specs.Rules.Disk.{log_length, log_entries}
use Rattle.model.proofs.Laws.Disk.StoreLists.{length-log_stores}
use Rattle.std.proofs.lemmas.List.{drop-map}
use Rattle.disk_log.specs.Given.{entry_of, Logged}
use Rattle.disk_log.proofs.Laws.Replay.{place-below, entries-length}
use Rattle.next_store.specs.Next.{IsNext}

-- ---- the first store behind some of a list

-- of two lists one behind the other, in the first
first-left : (n : ℕ) (s t : List Store) → n < length s → take 1 (drop n (s ++ t)) ≡ take 1 (drop n s)
first-left n s t h =
    ap (take 1) (drop-append-le n s t (omega arith)) ∙ take-append-le 1 (drop n s) t (omega (arith, length-drop n s))

-- the store of an entry, if the entry is there
first-map : (n : ℕ) (f : Store → Store) (es : List Store) (e : Store) → take 1 (drop n es) ≡ e ∷ [] → take 1 (drop n (map f es)) ≡ f e ∷ []
first-map zero f [] e p = cc
first-map zero f (x ∷ es) e p = ap (λ (y : Store). f y ∷ []) (let q : x ≡ e = cc in q)
first-map (suc n) f [] e p = cc
first-map (suc n) f (x ∷ es) e p = first-map n f es e p

-- there is one only before the end
first-there : (n : ℕ) (es : List Store) (e : Store) → take 1 (drop n es) ≡ e ∷ [] → n < length es
first-there zero [] e p = absurd (let z : ◌≡◌ {A = ℕ} 0 1 = ap length p in omega arith)
first-there zero (x ∷ es) e p = omega arith
first-there (suc n) [] e p = absurd (let z : ◌≡◌ {A = ℕ} 0 1 = ap length p in omega arith)
first-there (suc n) (x ∷ es) e p = let h : n < length es = first-there n es e p in omega arith

-- what is behind the first of a list
pub behind-first : {e : Store} {all rest : List Store} (n : ℕ) → all ≡ e ∷ rest → (n ≡ 0 → ⊥) → drop n all ≡ drop (n - 1) rest
behind-first zero p some = absurd (some refl)
behind-first (suc n) p some = ap (drop (suc n)) p ∙ (let one_less : suc n - 1 ≡ n = omega arith in rw one_less)

-- ---- the stores that checkpoint the bitmap

-- a logged word
pub checkpoint-word : (n : ℕ) (es : List Store) (e : Store) → take 1 (drop n es) ≡ e ∷ []
    → take 1 (drop n (checkpoint_stores es)) ≡ (bitmap_at + e.place) ≔ e.value ∷ []
unfolding checkpoint_stores checkpoint_with
checkpoint-word n es e p =
    first-left n (map on_disk es) (length_at ≔ 0 ∷ []) (omega (arith, first-there n es e p, length-map es on_disk)) ∙ first-map n on_disk es e p

-- word 1 to 0
pub checkpoint-last : (n : ℕ) (es : List Store) → n ≡ length es → take 1 (drop n (checkpoint_stores es)) ≡ length_at ≔ 0 ∷ []
unfolding checkpoint_stores checkpoint_with
checkpoint-last n es e = ap (take 1) (drop_at (map on_disk es) (length_at ≔ 0 ∷ []) n (length-map es on_disk ∙ sym e))

-- ---- the stores of the log

log-word : (at n : ℕ) (es : List Store) (e : Store) → take 1 (drop (n / 2) es) ≡ e ∷ []
    → take 1 (drop n (log_stores at es)) ≡ (at + n) ≔ cond (eqb (n % 2) 0) e.place e.value ∷ []
unfolding log_stores
log-word at n [] e p = absurd (let h : n / 2 < 0 = first-there (n / 2) [] e p in omega arith)
log-word at zero (x ∷ es) e p = let q : x ≡ e = cc in rw (add-zero at, q)
log-word at (suc zero) (x ∷ es) e p = let q : x ≡ e = cc in rw q
log-word at (suc (suc n)) (x ∷ es) e p =
    let half : suc (suc n) / 2 ≡ suc (n / 2) = omega arith in
    let low : n % 2 ≡ suc (suc n) % 2 = omega arith in
    let place : at + 2 + n ≡ at + suc (suc n) = omega arith in
    let q : take 1 (drop (suc (n / 2)) (x ∷ es)) ≡ e ∷ [] = rw half at p in
    log-word (at + 2) n es e q ∙ rw (low, place)

-- ---- the stores of a commit

module _ (es : List Store) where
  -- the stores behind those of the log
  abbrev rest : List Store
  rest = length_at ≔ length es ∷ checkpoint_stores es

  -- in the log: an entry's number, then its contents
  pub next-log : (done : ℕ) (e : Store) → take 1 (drop (done / 2) es) ≡ e ∷ []
      → take 1 (drop done (commit_stores es)) ≡ (log_at + done) ≔ cond (eqb (done % 2) 0) e.place e.value ∷ []
  unfolding commit_stores journal_with checkpoint_stores
  next-log done e p =
      first-left done (log_stores log_at es) rest (omega (arith, first-there (done / 2) es e p, length-log_stores log_at es)) ∙ log-word log_at done es e p

  -- the commit point
  pub next-point : (done : ℕ) → done ≡ 2 * length es → take 1 (drop done (commit_stores es)) ≡ length_at ≔ length es ∷ []
  unfolding commit_stores journal_with checkpoint_stores
  next-point done e = ap (take 1) (drop_at (log_stores log_at es) rest done (length-log_stores log_at es ∙ sym e))

  -- behind the commit point
  behind-point : (done i : ℕ) → done ≡ 2 * length es + 1 + i → drop done (commit_stores es) ≡ drop i (checkpoint_stores es)
  unfolding commit_stores journal_with checkpoint_stores
  behind-point done i e =
      let n : done ≡ length (log_stores log_at es) + suc i = omega (arith, length-log_stores log_at es) in
      ap (λ (k : ℕ). drop k (log_stores log_at es ++ rest)) n ∙ drop-append-add (log_stores log_at es) rest (suc i)

  -- a changed word
  pub next_word : (done i : ℕ) (e : Store) → done ≡ 2 * length es + 1 + i → take 1 (drop i es) ≡ e ∷ []
      → take 1 (drop done (commit_stores es)) ≡ (bitmap_at + e.place) ≔ e.value ∷ []
  next_word done i e n p = ap (take 1) (behind-point done i n) ∙ checkpoint-word i es e p

  -- word 1 to 0
  pub next_last : (done i : ℕ) → done ≡ 2 * length es + 1 + i → i ≡ length es → take 1 (drop done (commit_stores es)) ≡ length_at ≔ 0 ∷ []
  next_last done i n e = ap (take 1) (behind-point done i n) ∙ checkpoint-last i es e

-- ---- the stores of a recovery

module _ (disk : List ℕ) (logged : Logged disk) (l : length disk ≡ disk_words) (es : List (List ℕ)) (log : map entry_of es ≡ log_entries disk) (done : ℕ) where
  -- a logged word
  pub recovery-word : done < length es
      → IsNext (checkpoint_stores (log_entries disk)) done (bitmap_at + get_or (get_or es done []) 0 0) (get_or (get_or es done []) 1 0)
  recovery-word h =
      record {
        within = omega (arith, place-below disk 0 es done logged.few_blocks logged.log log h);
        next = checkpoint-word done (log_entries disk) (entry_of (get_or es done [])) (rw (← log, drop-map entry_of done es, drop-cons es done [] h));
      }

  -- word 1 to 0
  pub recovery-last : done ≤ log_length disk → length es ≤ done → IsNext (checkpoint_stores (log_entries disk)) done length_at 0
  recovery-last few last =
      let count : length es ≡ log_length disk = entries-length disk es l logged.few_blocks logged.log log in
      let all : length es ≡ length (log_entries disk) = sym (length-map es entry_of) ∙ ap length log in
      record { within = omega arith; next = checkpoint-last done (log_entries disk) (omega arith) }

-- ---- the next store made

pub made : (disk : List ℕ) {stores : List Store} {done place value : ℕ} → IsNext stores done place value
    → set disk place value ≡ writes (take 1 (drop done stores)) disk
unfolding writes
made disk is = sym (ap (λ (s : List Store). writes s disk) is.next)
