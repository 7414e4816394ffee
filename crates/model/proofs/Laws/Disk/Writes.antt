-- Lists of writes: their order, their repetition, and the writes that turn one list of words into another.
use Prim.Native.Nat.{ℕ, suc, ◌+◌}
use mathlib.Core.Path.{◌≡◌, refl, sym, ap, ◌∙◌, subst}
use mathlib.Core.Bool.{Bool, true, false, cond, ◌&&◌, ◌||◌, false≢true}
use mathlib.Core.List.{List, [], ◌∷◌, ◌++◌}
use native.Mathlib.Nat.{suc_inj, suc-ne-zero}
use native.Mathlib.Numerals.{add-one}
use native.Mathlib.Decide.{ℕ_discrete}
use lib.ListN.{length, set, take, drop, length-set, length-append, take-append-drop}
use lib.Seq.{set-set, set_comm, set_at, take-add, take-length, append_snoc}
use lib.Dec.{eqb}
use borrow.Author.Tests.{eqb-true, eq-eqb}
use Rattle.model.specs.Rules.Stores.{Store, ◌≔◌, writes, changes_from, changes}
use Rattle.model.specs.Rules.Valid.{same_words}

-- tests joined by "and"
pub and_both : {a b : Bool} → a ≡ true → b ≡ true → (a && b) ≡ true
and_both {a} {b} p q = rw (p, q)

pub and_first : (a b : Bool) → (a && b) ≡ true → a ≡ true
and_first true b p = refl
and_first false b p = p

pub and_second : (a b : Bool) → (a && b) ≡ true → b ≡ true
and_second true b p = p
and_second false b p = absurd (false≢true p)

-- and by "or", where neither holds
pub or-none : (a b : Bool) → (a || b) ≡ false → (a ≡ false) × (b ≡ false)
or-none true b e = absurd (false≢true (sym e))
or-none false b e = (refl, e)

-- one list of writes after another
pub writes-append : (s t : List Store) (w : List ℕ) → writes (s ++ t) w ≡ writes t (writes s w)
unfolding writes
writes-append [] t w = refl
writes-append (e ∷ s) t w = writes-append s t (set w e.place e.value)

pub length-writes : (s : List Store) (w : List ℕ) → length (writes s w) ≡ length w
unfolding writes
length-writes [] w = refl
length-writes (e ∷ s) w = length-writes s (set w e.place e.value) ∙ length-set w e.place e.value

-- one more store of a list
pub store-next : (k : ℕ) (stores : List Store) (w : List ℕ) → writes (take 1 (drop k stores)) (writes (take k stores) w) ≡ writes (take (suc k) stores) w
store-next k stores w =
    sym (writes-append (take k stores) (take 1 (drop k stores)) w)
    ∙ ap (λ (s : List Store). writes s w) (sym (take-add k 1 stores))
    ∙ ap (λ (n : ℕ). writes (take n stores) w) (add-one k)

pub store-next-one : (k : ℕ) (stores : List Store) (w : List ℕ) → writes (take 1 (drop k stores)) (writes (take k stores) w) ≡ writes (take (k + 1) stores) w
store-next-one k stores w = store-next k stores w ∙ ap (λ (n : ℕ). writes (take n stores) w) (sym (add-one k))

-- a write to a place that the list writes later leaves no trace
pub write_again : (a : List Store) (e : Store) (c : List Store) (w : List ℕ) (v : ℕ) → writes (a ++ (e ∷ c)) (set w e.place v) ≡ writes (a ++ (e ∷ c)) w
unfolding writes
write_again [] e c w v = ap (writes c) (set-set w e.place v e.value)
write_again (f ∷ a) e c w v = go (ℕ_discrete e.place f.place) (write_again a e c (set w f.place f.value) v)
  where
    go : Dec (e.place ≡ f.place)
        → writes (a ++ (e ∷ c)) (set (set w f.place f.value) e.place v) ≡ writes (a ++ (e ∷ c)) (set w f.place f.value)
        → writes (a ++ (e ∷ c)) (set (set w e.place v) f.place f.value) ≡ writes (a ++ (e ∷ c)) (set w f.place f.value)
    go (yes p) ih = ap (writes (a ++ (e ∷ c))) (ap (λ (i : ℕ). set (set w i v) f.place f.value) p ∙ set-set w f.place v f.value)
    go (no h) ih = ap (writes (a ++ (e ∷ c))) (set_comm w e.place f.place v f.value h) ∙ ih

-- a middle part of a list of writes first and then the whole list: what the whole list gives
pub writes_again : (a b c : List Store) (w : List ℕ) → writes (a ++ (b ++ c)) (writes b w) ≡ writes (a ++ (b ++ c)) w
unfolding writes
writes_again a [] c w = refl
writes_again a (e ∷ b) c w =
    ap (λ (s : List Store). writes s (writes b (set w e.place e.value))) (sym (append_snoc a e (b ++ c)))
    ∙ writes_again (a ++ (e ∷ [])) b c (set w e.place e.value)
    ∙ ap (λ (s : List Store). writes s (set w e.place e.value)) (append_snoc a e (b ++ c))
    ∙ write_again a e (b ++ c) w e.value

-- the first k writes and then all of them
pub writes-take-again : (k : ℕ) (es : List Store) (w : List ℕ) → writes es (writes (take k es) w) ≡ writes es w
writes-take-again k es w =
    subst
    (λ (s : List Store). writes s (writes (take k es) w) ≡ writes s w)
    (take-append-drop k es)
    (writes_again [] (take k es) (drop k es) w)

-- all writes twice
pub writes-twice : (es : List Store) (w : List ℕ) → writes es (writes es w) ≡ writes es w
writes-twice es w = ap (λ (s : List Store). writes es (writes s w)) (sym (take-length es)) ∙ writes-take-again (length es) es w

pub same-words : (xs ys : List ℕ) → same_words xs ys ≡ true → xs ≡ ys
unfolding same_words
same-words [] [] p = refl
same-words [] (y ∷ ys) p = absurd (false≢true p)
same-words (x ∷ xs) [] p = absurd (false≢true p)
same-words (x ∷ xs) (y ∷ ys) p =
    ap (λ (z : ℕ). z ∷ xs) (eqb-true x y (and_first (eqb x y) (same_words xs ys) p))
    ∙ ap {B = List ℕ} (λ zs. y ∷ zs) (same-words xs ys (and_second (eqb x y) (same_words xs ys) p))

pub words_same : (xs : List ℕ) → same_words xs xs ≡ true
unfolding same_words
words_same [] = refl
words_same (x ∷ xs) = and_both (eq-eqb x x refl) (words_same xs)

-- the changed words of the rest, written behind words that stay
pub writes-changes_from : (front : List ℕ) (k : ℕ) (old new : List ℕ)
    → length front ≡ k → length old ≡ length new → writes (changes_from k old new) (front ++ old) ≡ front ++ new
unfolding writes changes_from
writes-changes_from front k [] [] f p = refl
writes-changes_from front k [] (y ∷ new) f p = absurd (suc-ne-zero (length new) (sym p))
writes-changes_from front k (x ∷ old) [] f p = absurd (suc-ne-zero (length old) p)
writes-changes_from front k (x ∷ old) (y ∷ new) f p = go (eqb x y) refl (writes-changes_from (front ++ (y ∷ [])) (suc k) old new next (suc_inj p))
  where
    next : length (front ++ (y ∷ [])) ≡ suc k
    next = length-append front (y ∷ []) ∙ add-one (length front) ∙ ap suc f

    rest : List Store
    rest = changes_from (suc k) old new

    go : (t : Bool)
        → eqb x y ≡ t → writes rest (front ++ (y ∷ []) ++ old) ≡ front ++ (y ∷ []) ++ new
        → writes (cond t rest (k ≔ y ∷ rest)) (front ++ (x ∷ old)) ≡ front ++ (y ∷ new)
    go true e ih =
        ap (λ (z : ℕ). writes rest (front ++ (z ∷ old))) (eqb-true x y e)
        ∙ ap (writes rest) (sym (append_snoc front y old))
        ∙ ih
        ∙ append_snoc front y new
    go false e ih = ap (writes rest) (set_at front x old y k f ∙ sym (append_snoc front y old)) ∙ ih ∙ append_snoc front y new

pub writes-changes : (old new : List ℕ) → length old ≡ length new → writes (changes old new) old ≡ new
writes-changes old new p = writes-changes_from [] 0 old new refl p

-- where no word changes, the two are one
pub no-changes : (old new : List ℕ) → length old ≡ length new → length (changes old new) ≡ 0 → old ≡ new
unfolding writes
no-changes old new p none = go (changes old new) none (writes-changes old new p)
  where
    go : (es : List Store) → length es ≡ 0 → writes es old ≡ new → old ≡ new
    go [] z made = made
    go (e ∷ es) z made = absurd (suc-ne-zero (length es) z)
