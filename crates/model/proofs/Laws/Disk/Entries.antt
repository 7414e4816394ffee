-- Log entries: when they are valid, the bitmaps that they leave, and how a log is read back.
use Prim.Native.Nat.{ℕ, zero, suc, ◌-◌, ◌*◌, ◌^◌, ◌≤◌, ◌<◌}
use mathlib.Core.Path.{◌≡◌, refl, sym, ap, ◌∙◌, subst}
use mathlib.Core.Bool.{Bool, true, ◌&&◌}
use mathlib.Core.List.{List, [], ◌∷◌}
use native.Mathlib.Omega.{arith}
use lib.ListN.{length, get_or, set, take, drop, length-set}
use lib.Seq.{get_or-set_same, get_or-set_other, set-get_or}
use lib.Dec.{leb, ltb, eqb}
use borrow.Author.Tests.{ltb-true, leb-true, eqb-true, eq-eqb, lt-ltb, le-leb}
use Rattle.bitmap.specs.Sizes.{max_blocks, bitmap_words, words_for}
use Rattle.bitmap.specs.Bits.{no_bits_from}
use Rattle.model.specs.Rules.Stores.{Store, ◌≔◌, writes, log_stores}
use Rattle.model.specs.Rules.Disk.{entries_in, entries_valid, entries_agree}
use Rattle.model.proofs.Laws.Disk.Writes.{and_both, and_first, and_second}
use Rattle.model.proofs.Laws.Disk.Places.{Places, writes-shift}
use Rattle.model.proofs.Laws.Disk.StoreLists.{log_stores-from}

-- what a valid entry and a valid rest of the log say
pub record ValidEntry (blocks low : ℕ) (e : Store) (es : List Store) : Type 0 where
  pub rising : low ≤ e.place
  pub below : e.place < words_for blocks
  pub small : e.value < 2 ^ (blocks - 32 * e.place)
  pub rest : entries_valid blocks (suc e.place) es ≡ true

pub valid-entry : (blocks low : ℕ) (e : Store) (es : List Store) → entries_valid blocks low (e ∷ es) ≡ true → ValidEntry blocks low e es
unfolding entries_valid
valid-entry blocks low e es p = go (leb low e.place) (ltb e.place (words_for blocks)) (ltb e.value (2 ^ (blocks - 32 * e.place))) refl refl refl p
  where
    tail : Bool
    tail = entries_valid blocks (suc e.place) es

    go : (a b c : Bool)
        → leb low e.place ≡ a
        → ltb e.place (words_for blocks) ≡ b
        → ltb e.value (2 ^ (blocks - 32 * e.place)) ≡ c
        → (a && b && c && tail) ≡ true
        → ValidEntry blocks low e es
    go a b c pa pb pc q =
        let abc : (a && b && c) ≡ true = and_first (a && b && c) tail q in
        let ab : (a && b) ≡ true = and_first (a && b) c abc in
        record {
          rising = leb-true low e.place (pa ∙ and_first a b ab);
          below = ltb-true e.place (words_for blocks) (pb ∙ and_second a b ab);
          small = ltb-true e.value (2 ^ (blocks - 32 * e.place)) (pc ∙ and_second (a && b) c abc);
          rest = and_second (a && b && c) tail q;
        }

pub entry-valid : (blocks low : ℕ) (e : Store) (es : List Store) → ValidEntry blocks low e es → entries_valid blocks low (e ∷ es) ≡ true
unfolding entries_valid
entry-valid blocks low e es v =
    and_both
    (and_both
    (and_both
    (le-leb low e.place v.rising)
    (lt-ltb e.place (words_for blocks) v.below))
    (lt-ltb e.value (2 ^ (blocks - 32 * e.place)) v.small))
    v.rest

-- a lower bound serves as well
pub valid-lower : (blocks low lower : ℕ) (es : List Store) → lower ≤ low → entries_valid blocks low es ≡ true → entries_valid blocks lower es ≡ true
unfolding entries_valid
valid-lower blocks low lower [] le p = refl
valid-lower blocks low lower (e ∷ es) le p =
    let v : ValidEntry blocks low e es = valid-entry blocks low e es p in
    entry-valid blocks lower e es (record { rising = omega arith; below = v.below; small = v.small; rest = v.rest })

pub valid-take : (blocks low k : ℕ) (es : List Store) → entries_valid blocks low es ≡ true → entries_valid blocks low (take k es) ≡ true
unfolding entries_valid
valid-take blocks low zero es p = refl
valid-take blocks low (suc k) [] p = refl
valid-take blocks low (suc k) (e ∷ es) p =
    let v : ValidEntry blocks low e es = valid-entry blocks low e es p in
    entry-valid
    blocks
    low
    e
    (take k es)
    (record { rising = v.rising; below = v.below; small = v.small; rest = valid-take blocks (suc e.place) k es v.rest })

pub valid-drop : (blocks low k : ℕ) (es : List Store) → entries_valid blocks low es ≡ true → entries_valid blocks low (drop k es) ≡ true
valid-drop blocks low zero es p = p
valid-drop blocks low (suc k) [] p = p
valid-drop blocks low (suc k) (e ∷ es) p =
    let v : ValidEntry blocks low e es = valid-entry blocks low e es p in
    valid-drop blocks low k es (valid-lower blocks (suc e.place) low es (omega arith) v.rest)

-- numbers that rise below W are few
pub valid-length : (blocks low : ℕ) (es : List Store) → entries_valid blocks low es ≡ true → length es ≤ words_for blocks - low
valid-length blocks low [] p = omega arith
valid-length blocks low (e ∷ es) p =
    let v : ValidEntry blocks low e es = valid-entry blocks low e es p in
    let h : length es ≤ words_for blocks - suc e.place = valid-length blocks (suc e.place) es v.rest in
    omega arith

pub valid-places : (blocks low : ℕ) (es : List Store) → entries_valid blocks low es ≡ true → blocks ≤ max_blocks → Places bitmap_words es
valid-places blocks low [] p le = tt
valid-places blocks low (e ∷ es) p le =
    let v : ValidEntry blocks low e es = valid-entry blocks low e es p in
    (omega arith, valid-places blocks (suc e.place) es v.rest le)

-- words with no bits from m on

pub no_bits-first : (m x : ℕ) (xs : List ℕ) → no_bits_from m (x ∷ xs) ≡ true → x < 2 ^ m
unfolding no_bits_from
no_bits-first m x xs p = ltb-true x (2 ^ m) (and_first (ltb x (2 ^ m)) (no_bits_from (m - 32) xs) p)

pub no_bits-rest : (m x : ℕ) (xs : List ℕ) → no_bits_from m (x ∷ xs) ≡ true → no_bits_from (m - 32) xs ≡ true
unfolding no_bits_from
no_bits-rest m x xs p = and_second (ltb x (2 ^ m)) (no_bits_from (m - 32) xs) p

pub no_bits-cons : (m x : ℕ) (xs : List ℕ) → x < 2 ^ m → no_bits_from (m - 32) xs ≡ true → no_bits_from m (x ∷ xs) ≡ true
unfolding no_bits_from
no_bits-cons m x xs h p = and_both (lt-ltb x (2 ^ m) h) p

pub set-no_bits : (m : ℕ) (words : List ℕ) (i v : ℕ) → no_bits_from m words ≡ true → v < 2 ^ (m - 32 * i) → no_bits_from m (set words i v) ≡ true
set-no_bits m [] i v p h = p
set-no_bits m (x ∷ words) zero v p h =
    no_bits-cons m v words (subst (λ (n : ℕ). v < 2 ^ n) (omega arith) h) (no_bits-rest m x words p)
set-no_bits m (x ∷ words) (suc i) v p h =
    no_bits-cons
    m
    x
    (set words i v)
    (no_bits-first m x words p)
    (set-no_bits (m - 32) words i v (no_bits-rest m x words p) (subst (λ (n : ℕ). v < 2 ^ n) (omega arith) h))

pub writes-no_bits-from : (blocks low : ℕ) (es : List Store) (words : List ℕ)
    → no_bits_from blocks words ≡ true → entries_valid blocks low es ≡ true → no_bits_from blocks (writes es words) ≡ true
unfolding writes
writes-no_bits-from blocks low [] words p q = p
writes-no_bits-from blocks low (e ∷ es) words p q =
    let v : ValidEntry blocks low e es = valid-entry blocks low e es q in
    writes-no_bits-from
    blocks
    (suc e.place)
    es
    (set words e.place e.value)
    (set-no_bits blocks words e.place e.value p v.small)
    v.rest

pub writes-no_bits : (blocks : ℕ) (es : List Store) (words : List ℕ)
    → no_bits_from blocks words ≡ true → entries_valid blocks 0 es ≡ true → no_bits_from blocks (writes es words) ≡ true
writes-no_bits blocks es words p q = writes-no_bits-from blocks 0 es words p q

pub writes-take-no_bits : (blocks k : ℕ) (es : List Store) (words : List ℕ)
    → no_bits_from blocks words ≡ true → entries_valid blocks 0 es ≡ true → no_bits_from blocks (writes (take k es) words) ≡ true
writes-take-no_bits blocks k es words p q = writes-no_bits-from blocks 0 (take k es) words p (valid-take blocks 0 k es q)

-- a log is read back as it was written
pub entries-logged : (es : List Store) (log : List ℕ) → 2 * length es ≤ length log → entries_in (length es) (writes (log_stores 0 es) log) ≡ es
unfolding entries_in log_stores writes
entries-logged [] log h = refl
entries-logged (e ∷ es) [] h = absurd (omega arith)
entries-logged (e ∷ es) (x ∷ []) h = absurd (omega arith)
entries-logged (e ∷ es) (x ∷ y ∷ log) h =
    ap
    (entries_in (suc (length es)))
    (ap (λ (s : List Store). writes s (e.place ∷ e.value ∷ log)) (log_stores-from 2 es)
    ∙ writes-shift (e.place ∷ e.value ∷ []) 2 (log_stores 0 es) log refl)
    ∙ ap {B = List Store} (λ r. e ∷ r) (entries-logged es log (omega arith))

-- the first entries go by the first words
pub entries-take : (n m : ℕ) (words : List ℕ) → 2 * n ≤ m → entries_in n (take m words) ≡ entries_in n words
unfolding entries_in
entries-take zero m words h = refl
entries-take (suc n) zero words h = absurd (omega arith)
entries-take (suc n) (suc zero) words h = absurd (omega arith)
entries-take (suc n) (suc (suc m)) [] h = refl
entries-take (suc n) (suc (suc m)) (x ∷ []) h = refl
entries-take (suc n) (suc (suc m)) (x ∷ y ∷ words) h = ap {B = List Store} (λ r. x ≔ y ∷ r) (entries-take n m words (omega arith))

pub length-entries_in : (n : ℕ) (words : List ℕ) → 2 * n ≤ length words → length (entries_in n words) ≡ n
unfolding entries_in
length-entries_in zero words h = refl
length-entries_in (suc n) [] h = absurd (omega arith)
length-entries_in (suc n) (x ∷ []) h = absurd (omega arith)
length-entries_in (suc n) (x ∷ y ∷ words) h = ap suc (length-entries_in n words (omega arith))

-- entries that rise write no word below the first of them
pub get_or-writes-below : (blocks low : ℕ) (es : List Store) (words : List ℕ) (i : ℕ)
    → entries_valid blocks low es ≡ true → i < low → get_or (writes es words) i 0 ≡ get_or words i 0
unfolding writes
get_or-writes-below blocks low [] words i p h = refl
get_or-writes-below blocks low (e ∷ es) words i p h =
    let v : ValidEntry blocks low e es = valid-entry blocks low e es p in
    get_or-writes-below blocks (suc e.place) es (set words e.place e.value) i v.rest (omega arith)
    ∙ get_or-set_other words e.place i e.value 0 (omega arith)

-- entries agree with the words that they have written
pub entries-agree : (blocks low : ℕ) (es : List Store) (words : List ℕ) (n : ℕ)
    → length words ≡ n → Places n es → entries_valid blocks low es ≡ true → entries_agree (writes es words) es ≡ true
unfolding writes entries_agree
entries-agree blocks low [] words n l p q = refl
entries-agree blocks low (e ∷ es) words n l p q =
    let v : ValidEntry blocks low e es = valid-entry blocks low e es q in
    let next : List ℕ = set words e.place e.value in
    and_both
    (eq-eqb
    (get_or (writes es next) e.place 0)
    e.value
    (get_or-writes-below blocks (suc e.place) es next e.place v.rest (omega arith)
    ∙ get_or-set_same words e.place e.value 0 (omega arith)))
    (entries-agree blocks (suc e.place) es next n (length-set words e.place e.value ∙ l) p.1 v.rest)

-- and writing entries that agree with the words changes nothing
pub writes-agreeing : (es : List Store) (words : List ℕ) → entries_agree words es ≡ true → writes es words ≡ words
unfolding writes entries_agree
writes-agreeing [] words p = refl
writes-agreeing (e ∷ es) words p =
    let there : get_or words e.place 0 ≡ e.value = eqb-true (get_or words e.place 0) e.value (and_first _ (entries_agree words es) p) in
    ap (writes es) (ap (set words e.place) (sym there) ∙ set-get_or words e.place 0)
    ∙ writes-agreeing es words (and_second (eqb (get_or words e.place 0) e.value) _ p)
