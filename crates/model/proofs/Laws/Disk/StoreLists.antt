-- Store lists: how many stores they have, and the log's stores wherever the log starts.
use Prim.Native.Nat.{ℕ, zero, suc, ◌+◌, ◌*◌, ◌≤◌}
use mathlib.Core.Path.{◌≡◌, refl, sym, ap, ◌∙◌}
use mathlib.Core.List.{List, [], ◌∷◌, ◌++◌, map}
use native.Mathlib.Nat.{add-zero, add_assoc}
use native.Mathlib.Omega.{arith}
use lib.ListN.{length, take, drop, length-append, length-map}
use lib.Seq.{take-append-le}
use Rattle.model_types.specs.Pending.{stores_for, changed_for}
use Rattle.model.specs.Rules.Stores.{Store, ◌≔◌, writes, log_stores, on_disk, checkpoint_with, journal_with, commit_point, closing_stores, commit_stores}
use Rattle.model.proofs.Laws.Disk.Places.{shift, writes-shift}

-- how many stores there are

pub length-log_stores : (at : ℕ) (es : List Store) → length (log_stores at es) ≡ 2 * length es
unfolding log_stores
length-log_stores at [] = refl
length-log_stores at (e ∷ es) = omega (arith, length-log_stores (at + 2) es)

pub length-checkpoint_with : (closing es : List Store) → length (checkpoint_with closing es) ≡ length es + length closing
unfolding checkpoint_with
length-checkpoint_with closing es = length-append (map on_disk es) closing ∙ ap (λ (n : ℕ). n + length closing) (length-map es on_disk)

pub length-journal_with : (point : ℕ) (closing es : List Store) → length (journal_with point closing es) ≡ 3 * length es + 1 + length closing
unfolding journal_with
length-journal_with point closing es = simp (length-append, length-log_stores, length-checkpoint_with) (omega arith)

pub length-commit_stores : (es : List Store) → length (commit_stores es) ≡ stores_for (length es)
unfolding commit_stores
length-commit_stores es = omega (arith, length-journal_with (commit_point es) closing_stores es)

pub changed-stores : (d : ℕ) → changed_for (stores_for d) ≡ d
changed-stores d = omega arith

pub take-map : (f : Store → Store) (k : ℕ) (s : List Store) → take k (map f s) ≡ map f (take k s)
take-map f zero s = refl
take-map f (suc k) [] = refl
take-map f (suc k) (e ∷ s) = ap {B = List Store} (λ r. f e ∷ r) (take-map f k s)

pub drop-map : (f : Store → Store) (k : ℕ) (s : List Store) → drop k (map f s) ≡ map f (drop k s)
drop-map f zero s = refl
drop-map f (suc k) [] = refl
drop-map f (suc k) (e ∷ s) = drop-map f k s

-- the first stores of a checkpoint
pub take-checkpoint : (closing : List Store) (k : ℕ) (es : List Store) → k ≤ length es → take k (checkpoint_with closing es) ≡ map on_disk (take k es)
unfolding checkpoint_with
take-checkpoint closing k es h =
    take-append-le k (map on_disk es) closing (omega (arith, length-map es on_disk)) ∙ take-map on_disk k es

-- the log's stores, wherever the log starts

pub log_stores-shift : (n at : ℕ) (es : List Store) → log_stores (n + at) es ≡ map (shift n) (log_stores at es)
unfolding log_stores
log_stores-shift n at [] = refl
log_stores-shift n at (e ∷ es) =
    ap (λ (i : ℕ). (n + at) ≔ e.place ∷ i ≔ e.value ∷ log_stores (n + at + 2) es) (add_assoc n at 1)
    ∙ ap (λ (i : ℕ). (n + at) ≔ e.place ∷ (n + (at + 1)) ≔ e.value ∷ log_stores i es) (add_assoc n at 2)
    ∙ ap {B = List Store} (λ r. (n + at) ≔ e.place ∷ (n + (at + 1)) ≔ e.value ∷ r) (log_stores-shift n (at + 2) es)

pub log_stores-from : (n : ℕ) (es : List Store) → log_stores n es ≡ map (shift n) (log_stores 0 es)
log_stores-from n es = ap (λ (i : ℕ). log_stores i es) (sym (add-zero n)) ∙ log_stores-shift n 0 es

-- the first k stores of a log that starts behind n words
pub writes-log : (front : List ℕ) (n k : ℕ) (es : List Store) (log : List ℕ)
    → length front ≡ n → writes (take k (log_stores n es)) (front ++ log) ≡ front ++ writes (take k (log_stores 0 es)) log
writes-log front n k es log f =
    ap (λ (s : List Store). writes s (front ++ log)) (ap (take k) (log_stores-from n es) ∙ take-map (shift n) k (log_stores 0 es))
    ∙ writes-shift front n (take k (log_stores 0 es)) log f

-- all of them
pub writes-log-all : (front : List ℕ) (n : ℕ) (es : List Store) (log : List ℕ)
    → length front ≡ n → writes (log_stores n es) (front ++ log) ≡ front ++ writes (log_stores 0 es) log
writes-log-all front n es log f =
    ap (λ (s : List Store). writes s (front ++ log)) (log_stores-from n es) ∙ writes-shift front n (log_stores 0 es) log f
