-- Lists of blocks: what is in them, and how a scan goes on from one block to the next.
use Prim.Native.Nat.{ℕ, zero, suc, ◌+◌, ◌-◌, ◌≤◌, ◌<◌, suc-le-suc}
use native.Mathlib.Nat.{not-suc-le-zero, zero-add, add-zero, add-suc, suc-add, le_refl, le_step, eq-or-lt_of_le, le_of_suc-le-suc, sub-eq-zero_of_le}
use native.Mathlib.Decide.{le_ind}
use native.Mathlib.Omega.{arith}
use mathlib.Core.Path.{◌≡◌, refl, sym, ap, ◌∙◌}
use mathlib.Core.Logic.{◌⊎◌, inl, inr, ⊎_elim}
use mathlib.Core.Bool.{Bool, true, false, not, cond, ◌||◌, and-eq-true_iff, or_assoc, or-true, false≢true}
use mathlib.Core.List.{List, [], ◌∷◌, ◌++◌}
use lib.ListN.{length, get_or, take}
use lib.Dec.{eqb}
use borrow.Author.Tests.{eqb-true, eq-eqb, not-true}
use Rattle.bitmap.specs.Bits.{bit}
use Rattle.bitmap.specs.Blocks.{scan, from, is_available, available_blocks, member, all_below}
use Rattle.bitmap.proofs.Laws.Bits.{below-or-from}

-- ---- a test at every number below n

-- it holds at each
pub all_below-at : (n : ℕ) (test : ℕ → Bool) (b : ℕ) → all_below n test ≡ true → b < n → test b ≡ true
unfolding all_below
all_below-at zero test b h l = absurd (not-suc-le-zero l)
all_below-at (suc n) test b h l =
    ⊎_elim (λ e. ap test e ∙ both.0) (λ k. all_below-at n test b both.1 k) (eq-or-lt_of_le (le_of_suc-le-suc l))
  where
    both : (test n ≡ true) × (all_below n test ≡ true)
    both = (and-eq-true_iff (test n) (all_below n test)).0 h

-- and if it holds at each, it holds at all
pub all_below-all : (n : ℕ) (test : ℕ → Bool) → ((b : ℕ) → b < n → test b ≡ true) → all_below n test ≡ true
unfolding all_below
all_below-all zero test h = refl
all_below-all (suc n) test h =
    (and-eq-true_iff (test n) (all_below n test)).1 (h n (le_refl (suc n)), all_below-all n test (λ b l. h b (le_step l)))

-- ---- what a list has

-- two lists joined have what one of them has
pub member-append : (b : ℕ) (xs ys : List ℕ) → member b (xs ++ ys) ≡ (member b xs || member b ys)
unfolding member
member-append b [] ys = refl
member-append b (x ∷ xs) ys = ap (λ (t : Bool). eqb b x || t) (member-append b xs ys) ∙ sym (or_assoc (eqb b x) (member b xs) (member b ys))

-- so it is in one of them
pub append-member : (b : ℕ) (xs ys : List ℕ) → member b (xs ++ ys) ≡ true → (member b xs ≡ true) ⊎ (member b ys ≡ true)
append-member b xs ys h = go (member b xs) refl (sym (member-append b xs ys) ∙ h)
  where
    go : (t : Bool) → member b xs ≡ t → (t || member b ys) ≡ true → (member b xs ≡ true) ⊎ (member b ys ≡ true)
    go true e k = inl e
    go false e k = inr k

-- a block of a list is its first or in its rest
pub member-cons : (b x : ℕ) (xs : List ℕ) → member b (x ∷ xs) ≡ true → (b ≡ x) ⊎ (member b xs ≡ true)
unfolding member
member-cons b x xs h = go (eqb b x) refl h
  where
    go : (t : Bool) → eqb b x ≡ t → (t || member b xs) ≡ true → (b ≡ x) ⊎ (member b xs ≡ true)
    go true e k = inl (eqb-true b x e)
    go false e k = inr k

-- a list's first block is in it
pub member-first : (b x : ℕ) (xs : List ℕ) → b ≡ x → member b (x ∷ xs) ≡ true
unfolding member
member-first b x xs e = rw (eq-eqb b x e)

-- a list's rest has no more than the list
pub member-rest : (b x : ℕ) (xs : List ℕ) → member b xs ≡ true → member b (x ∷ xs) ≡ true
unfolding member
member-rest b x xs h = rw (h, or-true)

-- a list has the block at each of its places
pub get_or-member : (xs : List ℕ) (i : ℕ) → i < length xs → member (get_or xs i 0) xs ≡ true
get_or-member [] i h = absurd (not-suc-le-zero h)
get_or-member (x ∷ xs) zero h = member-first x x xs refl
get_or-member (x ∷ xs) (suc i) h = member-rest (get_or xs i 0) x xs (get_or-member xs i (le_of_suc-le-suc h))

-- a list's start has no more than the list
pub member-take : (n b : ℕ) (xs : List ℕ) → member b (take n xs) ≡ true → member b xs ≡ true
unfolding member
member-take zero b xs h = absurd (false≢true h)
member-take (suc n) b [] h = h
member-take (suc n) b (x ∷ xs) h =
    ⊎_elim (λ e. rw (eq-eqb b x e)) (λ k. member-rest b x xs (member-take n b xs k)) (member-cons b x (take n xs) h)

-- ---- no block twice

-- each block of a list is in none of its later places
abbrev pub Distinct : List ℕ → Type 0
Distinct [] = Unit {0}
Distinct (x ∷ xs) = (member x xs ≡ false) × Distinct xs

-- so it is of a list's start
pub distinct-take : (n : ℕ) (xs : List ℕ) → Distinct xs → Distinct (take n xs)
distinct-take zero xs d = tt
distinct-take (suc n) [] d = tt
distinct-take (suc n) (x ∷ xs) d = (go (member x (take n xs)) refl, distinct-take n xs d.1)
  where
    go : (t : Bool) → member x (take n xs) ≡ t → t ≡ false
    go true e = absurd (false≢true (sym d.0 ∙ member-take n x xs e))
    go false e = refl

-- ---- what a scan finds

-- of a scan of n blocks from p on: each is one of these, and the test holds there
member-scan : (test : ℕ → Bool) (p n b : ℕ) → member b (scan test p n) ≡ true → (p ≤ b) × (b < p + n) × (test b ≡ true)
unfolding scan member
member-scan test p zero b h = absurd (false≢true h)
member-scan test p (suc n) b h = go (test p) refl h (member-scan test (suc p) n b)
  where
    Found : ℕ → ℕ → Type 0
    Found q k = (q ≤ b) × (b < q + k) × (test b ≡ true)

    later : Found (suc p) n → Found p (suc n)
    later f = (omega (arith, f.0), omega (arith, f.1), f.2)

    go : (t : Bool) → test p ≡ t → member b (cond t (p ∷ scan test (suc p) n) (scan test (suc p) n)) ≡ true
        → (member b (scan test (suc p) n) ≡ true → Found (suc p) n) → Found p (suc n)
    go true e k ih =
        ⊎_elim (λ q. (omega arith, omega arith, ap test q ∙ e)) (λ r. later (ih r)) (member-cons b p (scan test (suc p) n) k)
    go false e k ih = later (ih k)

-- what a scan up to m finds is from p on, below m, and the test holds there
pub member-from-true : (test : ℕ → Bool) (m p b : ℕ) → member b (from test m p) ≡ true → (p ≤ b) × (b < m) × (test b ≡ true)
unfolding from
member-from-true test m p b h =
    let f = member-scan test p (m - p) b h in
    (f.0, omega (arith, f.0, f.1), f.2)

-- a scan finds each block at which the test holds
member-scan-true : (test : ℕ → Bool) (p n b : ℕ) → p ≤ b → b < p + n → test b ≡ true → member b (scan test p n) ≡ true
unfolding scan
member-scan-true test p zero b l h e = absurd (omega arith)
member-scan-true test p (suc n) b l h e = go (test p) refl (eq-or-lt_of_le l) (λ q. member-scan-true test (suc p) n b q (omega arith) e)
  where
    go : (t : Bool) → test p ≡ t → (p ≡ b) ⊎ (p < b) → (p < b → member b (scan test (suc p) n) ≡ true)
        → member b (cond t (p ∷ scan test (suc p) n) (scan test (suc p) n)) ≡ true
    go true f (inl q) ih = member-first b p (scan test (suc p) n) (sym q)
    go false f (inl q) ih = absurd (false≢true (sym f ∙ ap test q ∙ e))
    go true f (inr q) ih = member-rest b p (scan test (suc p) n) (ih q)
    go false f (inr q) ih = ih q

pub member-from : (test : ℕ → Bool) (m p b : ℕ) → p ≤ b → b < m → test b ≡ true → member b (from test m p) ≡ true
unfolding from
member-from test m p b l h e = member-scan-true test p (m - p) b l (omega arith) e

-- an available block is below m and is available
pub available-below : (m : ℕ) (sam «com» : List ℕ) (b : ℕ) → member b (available_blocks m sam «com») ≡ true → (b < m) × (is_available sam «com» b ≡ true)
unfolding available_blocks
available-below m sam «com» b h = let f = member-from-true (is_available sam «com») m 0 b h in (f.1, f.2)

-- an available block has SAM 0: its release, if it had one, is committed
pub available-free : (sam «com» : List ℕ) (b : ℕ) → is_available sam «com» b ≡ true → bit sam b ≡ false
unfolding is_available
available-free sam «com» b e = not-true (bit sam b) ((and-eq-true_iff (not (bit sam b)) (not (bit «com» b))).0 e).0

-- and COM 0: no transaction has taken it
pub available-unused : (sam «com» : List ℕ) (b : ℕ) → is_available sam «com» b ≡ true → bit «com» b ≡ false
unfolding is_available
available-unused sam «com» b e = not-true (bit «com» b) ((and-eq-true_iff (not (bit sam b)) (not (bit «com» b))).0 e).1

-- ---- a scan from one block to the next

-- below m it takes the block if the test holds there, and goes on
pub from_step : (test : ℕ → Bool) (m p : ℕ) → p < m
    → from test m p ≡ cond (test p) (p ∷ from test m (suc p)) (from test m (suc p))
unfolding from scan
from_step test m p h = let e : m - p ≡ suc (m - suc p) = omega arith in rw e

-- from m on there is nothing
pub from_end : (test : ℕ → Bool) (m p : ℕ) → m ≤ p → from test m p ≡ []
unfolding from scan
from_end test m p h = rw (sub-eq-zero_of_le h)

-- a block at which the test fails is skipped
from_next : (test : ℕ → Bool) (m p : ℕ) → test p ≡ false → from test m p ≡ from test m (suc p)
from_next test m p e =
    ⊎_elim (λ l. from_step test m p l ∙ rw e) (λ l. from_end test m p l ∙ sym (from_end test m (suc p) (le_step l))) (below-or-from p m)

-- and so are all up to q
pub from-skip : (test : ℕ → Bool) (m p q : ℕ) → p ≤ q → ((b : ℕ) → p ≤ b → b < q → test b ≡ false) → from test m p ≡ from test m q
from-skip test m p q l none =
    le_ind (λ (k : ℕ). k ≤ q → from test m p ≡ from test m k) (λ _. refl)
    (λ k h ih u. ih (omega arith) ∙ from_next test m k (none k h u)) q l (le_refl q)

-- a scan goes on behind the first block that it finds
scan-rest : (test : ℕ → Bool) (p n x : ℕ) (rest : List ℕ) → scan test p n ≡ x ∷ rest → rest ≡ scan test (suc x) (p + n - suc x)
unfolding scan
scan-rest test p zero x rest e = absurd (omega (arith, ap length e))
scan-rest test p (suc n) x rest e = go (test p) e (scan-rest test (suc p) n x rest)
  where
    go : (t : Bool) → cond t (p ∷ scan test (suc p) n) (scan test (suc p) n) ≡ x ∷ rest
        → (scan test (suc p) n ≡ x ∷ rest → rest ≡ scan test (suc x) (suc p + n - suc x))
        → rest ≡ scan test (suc x) (p + suc n - suc x)
    go true k ih =
        let first : p ≡ x = cc in
        let tail : scan test (suc p) n ≡ rest = cc in
        let left : p + suc n - suc p ≡ n = omega arith in
        rw (← first, left) (sym tail)
    go false k ih =
        let left : suc p + n - suc x ≡ p + suc n - suc x = omega arith in
        rw left at (ih k)

pub from-rest : (test : ℕ → Bool) (m p x : ℕ) (rest : List ℕ) → from test m p ≡ x ∷ rest → rest ≡ from test m (suc x)
unfolding from
from-rest test m p x rest e = ⊎_elim within past (below-or-from p m)
  where
    within : p < m → rest ≡ scan test (suc x) (m - suc x)
    within h =
        let all : p + (m - p) - suc x ≡ m - suc x = omega arith in
        rw all at (scan-rest test p (m - p) x rest e)

    past : m ≤ p → rest ≡ scan test (suc x) (m - suc x)
    past h = absurd (omega (arith, ap length (sym (from_end test m p h) ∙ e)))

-- tests that agree find the same
scan-same : (test other : ℕ → Bool) (p n : ℕ) → ((b : ℕ) → p ≤ b → b < p + n → test b ≡ other b) → scan test p n ≡ scan other p n
unfolding scan
scan-same test other p zero same = refl
scan-same test other p (suc n) same =
    rw (same p (le_refl p) (omega arith), scan-same test other (suc p) n (λ b l h. same b (omega arith) (omega arith)))

pub from-same : (test other : ℕ → Bool) (m p : ℕ) → ((b : ℕ) → p ≤ b → b < m → test b ≡ other b) → from test m p ≡ from other m p
unfolding from
from-same test other m p same = scan-same test other p (m - p) (λ b l h. same b l (omega arith))

-- a scan finds no more blocks than it goes over
scan-length : (test : ℕ → Bool) (p n : ℕ) → length (scan test p n) ≤ n
unfolding scan
scan-length test p zero = le_refl 0
scan-length test p (suc n) = go (test p) (scan-length test (suc p) n)
  where
    go : (t : Bool) → length (scan test (suc p) n) ≤ n → length (cond t (p ∷ scan test (suc p) n) (scan test (suc p) n)) ≤ suc n
    go true h = suc-le-suc h
    go false h = le_step h

pub from-length : (test : ℕ → Bool) (m p : ℕ) → length (from test m p) ≤ m - p
unfolding from
from-length test m p = scan-length test p (m - p)

-- ---- a scan in two

-- of n + k blocks, those of the n and then those of the k after them
pub scan-append : (test : ℕ → Bool) (p n k : ℕ) → scan test p (n + k) ≡ scan test p n ++ scan test (p + n) k
unfolding scan
scan-append test p zero k = rw (zero-add k, add-zero p)
scan-append test p (suc n) k = rw (suc-add n k, add-suc p n, ← suc-add p n) (go (test p) (scan-append test (suc p) n k))
  where
    go : (t : Bool) → scan test (suc p) (n + k) ≡ scan test (suc p) n ++ scan test (suc p + n) k
        → cond t (p ∷ scan test (suc p) (n + k)) (scan test (suc p) (n + k)) ≡ cond t (p ∷ scan test (suc p) n) (scan test (suc p) n) ++ scan test (suc p + n) k
    go true e = ap (λ (l : List ℕ). p ∷ l) e
    go false e = e

-- the blocks from p up to m are those up to q and those from q on
pub from-append : (test : ℕ → Bool) (m p q : ℕ) → p ≤ q → q ≤ m → from test m p ≡ from test q p ++ from test m q
unfolding from
from-append test m p q l h =
    let all : m - p ≡ (q - p) + (m - q) = omega arith in
    let there : p + (q - p) ≡ q = omega arith in
    rw all (scan-append test p (q - p) (m - q) ∙ ap (λ (b : ℕ). scan test p (q - p) ++ scan test b (m - q)) there)
