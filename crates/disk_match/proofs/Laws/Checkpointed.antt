-- The bitmap words of a disk while a commit is stored: the old ones, with the first of the changed ones new.
use Prim.Native.Nat.{ℕ, zero, suc, ◌-◌}
use mathlib.Core.Path.{◌≡◌, refl, sym, ap, ◌∙◌}
use mathlib.Core.Bool.{Bool, true, false, cond}
use mathlib.Core.List.{List, [], ◌∷◌, ◌++◌}
use native.Mathlib.Numerals.{add-one}
use native.Mathlib.Nat.{sub-zero}
use native.Mathlib.Omega.{arith}
use lib.ListN.{length, take, length-append}
use lib.Seq.{take-nil, append_snoc, set_at}
use lib.Dec.{ltb, eqb}
use borrow.Author.Tests.{eqb-true, lt-ltb}
use Rattle.model.specs.Rules.Stores.{Store, ◌≔◌, writes, changes_from, changes}
use Rattle.disk_match.specs.Matching.{checkpointed_word}
use Rattle.disk_log.proofs.Laws.Tests.{ltb-same}

-- the old words with the first of the changed ones new
unfoldable pub checkpoint : ℕ → List ℕ → List ℕ → List ℕ
checkpoint checkpointed [] news = []
checkpoint checkpointed (old ∷ olds) [] = old ∷ olds
checkpoint checkpointed (old ∷ olds) (new ∷ news) = checkpointed_word checkpointed 0 old new ∷ checkpoint (checkpointed - cond (eqb old new) 0 1) olds news

-- with none of them new they are the old ones
pub checkpoint-none : (olds news : List ℕ) → checkpoint 0 olds news ≡ olds
unfolding checkpoint
checkpoint-none [] news = refl
checkpoint-none (old ∷ olds) [] = refl
checkpoint-none (old ∷ olds) (new ∷ news) = go (eqb old new) (checkpoint-none olds news)
  where
    go : (t : Bool) → checkpoint 0 olds news ≡ olds → old ∷ checkpoint (0 - cond t 0 1) olds news ≡ old ∷ olds
    go true ih = ap {B = List ℕ} (λ r. old ∷ r) ih
    go false ih = ap {B = List ℕ} (λ r. old ∷ r) ih

-- a word that doesn't change is the old one
pub checkpointed-same : (checkpointed old new : ℕ) → old ≡ new → checkpointed_word checkpointed 0 old new ≡ old
checkpointed-same checkpointed old new e = go (ltb 0 checkpointed)
  where
    go : (t : Bool) → cond t new old ≡ old
    go true = sym e
    go false = refl

-- i changed words further on, i fewer are left to be new
pub checkpointed-from : (checkpointed i old new : ℕ) → checkpointed_word checkpointed i old new ≡ checkpointed_word (checkpointed - i) 0 old new
checkpointed-from checkpointed i old new =
    ap (λ (t : Bool). cond t new old) (ltb-same i checkpointed 0 (checkpointed - i) (λ l. omega arith) (λ l. omega arith))

-- behind words that stay, they are what the first of the changes write
checkpoint-writes : (front : List ℕ) (k checkpointed : ℕ) (olds news : List ℕ) → length front ≡ k
    → writes (take checkpointed (changes_from k olds news)) (front ++ olds) ≡ front ++ checkpoint checkpointed olds news
unfolding writes changes_from checkpoint
checkpoint-writes front k checkpointed [] news f = rw (take-nil {A = Store} checkpointed)
checkpoint-writes front k checkpointed (old ∷ olds) [] f = rw (take-nil {A = Store} checkpointed)
checkpoint-writes front k checkpointed (old ∷ olds) (new ∷ news) f =
    go (eqb old new) refl checkpointed (λ x n. checkpoint-writes (front ++ (x ∷ [])) (suc k) n olds news (next x))
  where
    next : (x : ℕ) → length (front ++ (x ∷ [])) ≡ suc k
    next x = length-append front (x ∷ []) ∙ add-one (length front) ∙ ap suc f

    rest : List Store
    rest = changes_from (suc k) olds news

    go : (t : Bool) → eqb old new ≡ t → (n : ℕ)
        → ((x n : ℕ) → writes (take n rest) (front ++ (x ∷ []) ++ olds) ≡ front ++ (x ∷ []) ++ checkpoint n olds news)
        → writes (take n (cond t rest (k ≔ new ∷ rest))) (front ++ (old ∷ olds)) ≡ front ++ (checkpointed_word n 0 old new ∷ checkpoint (n - cond t 0 1) olds news)
    go true e n ih =
        ap (writes (take n rest)) (sym (append_snoc front old olds))
        ∙ ih old n
        ∙ append_snoc front old (checkpoint n olds news)
        ∙ rw (checkpointed-same n old new (eqb-true old new e), sub-zero n)
    go false e zero ih = rw (checkpoint-none olds news)
    go false e (suc n) ih =
        ap (writes (take n rest)) (set_at front old olds new k f ∙ sym (append_snoc front new olds))
        ∙ ih new n
        ∙ append_snoc front new (checkpoint n olds news)
        ∙ (let m : suc n - 1 ≡ n = omega arith in rw (lt-ltb 0 (suc n) (omega arith), m))

-- the first of the changes, written over the old words
pub checkpoint-changes : (checkpointed : ℕ) (olds news : List ℕ) → writes (take checkpointed (changes olds news)) olds ≡ checkpoint checkpointed olds news
checkpoint-changes checkpointed olds news = checkpoint-writes [] 0 checkpointed olds news refl
