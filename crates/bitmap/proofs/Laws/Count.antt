-- How many blocks a scan finds, and the blocks of a volume by their bits in SAM and COM.
use Prim.Native.Nat.{ℕ, zero, suc, ◌+◌, ◌-◌, ◌≤◌, ◌<◌, zero-le}
use native.Mathlib.Nat.{zero-add, sub-zero, le_refl}
use native.Mathlib.Omega.{arith}
use mathlib.Core.Path.{◌≡◌, refl, sym, ap, ◌∙◌}
use mathlib.Core.Bool.{Bool, true, false, not, cond, ◌&&◌, ◌||◌, false≢true}
use mathlib.Core.List.{List, [], ◌∷◌}
use lib.ListN.{length, length-append}
use lib.Dec.{eqb}
use borrow.Author.Tests.{eqb-true, eq-eqb, ne_eqb}
use Rattle.bitmap.specs.Bits.{bit}
use Rattle.bitmap.specs.Blocks.{scan, from, allocated_blocks, is_available, available_blocks, is_allocating, allocating_blocks, is_freeing, freeing_blocks, is_held, held_blocks, member}
use Rattle.bitmap.proofs.Laws.Blocks.{Distinct, from-skip, from_end, scan-append, member-first, member-rest}

-- ---- a scan in parts

-- none of no blocks
count-zero : (test : ℕ → Bool) (p : ℕ) → length (scan test p 0) ≡ 0
unfolding scan
count-zero test p = refl

-- one more if the test holds at the first
count-suc : (test : ℕ → Bool) (p n : ℕ) → length (scan test p (suc n)) ≡ cond (test p) 1 0 + length (scan test (suc p) n)
unfolding scan
count-suc test p n = go (test p) (scan test (suc p) n)
  where
    go : (t : Bool) (xs : List ℕ) → length (cond t (p ∷ xs) xs) ≡ cond t 1 0 + length xs
    go true xs = omega arith
    go false xs = omega arith

-- of n + k blocks, those of the n and those of the k after them
count_add : (test : ℕ → Bool) (p n k : ℕ) → length (scan test p (n + k)) ≡ length (scan test p n) + length (scan test (p + n) k)
count_add test p n k = ap length (scan-append test p n k) ∙ length-append (scan test p n) (scan test (p + n) k)

-- a test that holds everywhere finds all
count-all : (p n : ℕ) → length (scan (λ b. true) p n) ≡ n
count-all p zero = count-zero (λ b. true) p
count-all p (suc n) = omega (arith, count-suc (λ b. true) p n, count-all (suc p) n)

-- those at which the test holds are those at which another holds too, and those at which it doesn't
count-split : (test side : ℕ → Bool) (p n : ℕ)
    → length (scan test p n) ≡ length (scan (λ b. test b && not (side b)) p n) + length (scan (λ b. test b && side b) p n)
count-split test side p zero = omega (arith, count-zero test p, count-zero (λ b. test b && not (side b)) p, count-zero (λ b. test b && side b) p)
count-split test side p (suc n) =
    omega (
      arith,
      count-suc test p n,
      count-suc (λ b. test b && not (side b)) p n,
      count-suc (λ b. test b && side b) p n,
      count-split test side (suc p) n,
      go (test p) (side p),
    )
  where
    go : (t s : Bool) → cond t 1 0 ≡ cond (t && not s) 1 0 + cond (t && s) 1 0
    go true true = refl
    go true false = refl
    go false s = refl

-- and one that holds nowhere finds none
count_none : (p n : ℕ) → length (scan (λ b. false) p n) ≤ 0
count_none p zero = omega (arith, count-zero (λ b. false) p)
count_none p (suc n) = omega (arith, count-suc (λ b. false) p n, count_none (suc p) n)

-- a test that holds at one of them finds one
count-found : (test : ℕ → Bool) (p n i : ℕ) → i < n → test (p + i) ≡ true → 1 ≤ length (scan test p n)
count-found test p n i l e =
    let all : i + suc (n - suc i) ≡ n = omega arith in
    omega (
      arith,
      ap (λ (k : ℕ). length (scan test p k)) all,
      count_add test p i (suc (n - suc i)),
      count-suc test (p + i) (n - suc i),
      ap {B = ℕ} (λ (t : Bool). cond t 1 0) e,
    )

-- where a test holds at no more blocks than two others together, it finds no more than both
count-both : (test one two : ℕ → Bool) (p n : ℕ)
    → ((b : ℕ) → p ≤ b → b < p + n → cond (test b) 1 0 ≤ cond (one b) 1 0 + cond (two b) 1 0)
    → length (scan test p n) ≤ length (scan one p n) + length (scan two p n)
count-both test one two p zero few = omega (arith, count-zero test p)
count-both test one two p (suc n) few =
    omega (
      arith,
      count-suc test p n,
      count-suc one p n,
      count-suc two p n,
      few p (le_refl p) (omega arith),
      count-both test one two (suc p) n (λ b l h. few b (omega arith) (omega arith)),
    )

-- and where two tests hold at no more blocks than another, each counted by itself, they find no more than it
count-parts : (one two test : ℕ → Bool) (p n : ℕ)
    → ((b : ℕ) → p ≤ b → b < p + n → cond (one b) 1 0 + cond (two b) 1 0 ≤ cond (test b) 1 0)
    → length (scan one p n) + length (scan two p n) ≤ length (scan test p n)
count-parts one two test p zero few = omega (arith, count-zero one p, count-zero two p)
count-parts one two test p (suc n) few =
    omega (
      arith,
      count-suc test p n,
      count-suc one p n,
      count-suc two p n,
      few p (le_refl p) (omega arith),
      count-parts one two test (suc p) n (λ b l h. few b (omega arith) (omega arith)),
    )

pub count-disjoint : (one two test : ℕ → Bool) (m : ℕ)
    → ((b : ℕ) → b < m → cond (one b) 1 0 + cond (two b) 1 0 ≤ cond (test b) 1 0)
    → length (from one m 0) + length (from two m 0) ≤ length (from test m 0)
unfolding from
count-disjoint one two test m few = rw (sub-zero m) (count-parts one two test 0 m (λ b l h. few b (omega (arith, h))))

-- one block is found once: not after it, and not twice
count-after : (x p n : ℕ) → x < p → length (scan (λ b. eqb b x) p n) ≡ 0
count-after x p zero h = count-zero (λ b. eqb b x) p
count-after x p (suc n) h =
    omega (
      arith,
      count-suc (λ b. eqb b x) p n,
      ap {B = ℕ} (λ (t : Bool). cond t 1 0) (ne_eqb p x (λ e. omega (arith, e))),
      count-after x (suc p) n (omega arith),
    )

count-once : (x p n : ℕ) → length (scan (λ b. eqb b x) p n) ≤ 1
count-once x p zero = omega (arith, count-zero (λ b. eqb b x) p)
count-once x p (suc n) = go (eqb p x) refl (count-once x (suc p) n)
  where
    go : (t : Bool) → eqb p x ≡ t → length (scan (λ b. eqb b x) (suc p) n) ≤ 1 → length (scan (λ b. eqb b x) p (suc n)) ≤ 1
    go true e later =
        omega (
          arith,
          count-suc (λ b. eqb b x) p n,
          ap {B = ℕ} (λ (u : Bool). cond u 1 0) e,
          count-after x (suc p) n (omega (arith, eqb-true p x e)),
        )
    go false e later = omega (arith, count-suc (λ b. eqb b x) p n, ap {B = ℕ} (λ (u : Bool). cond u 1 0) e)

-- those of a list are no more than its length
count-member : (xs : List ℕ) (p n : ℕ) → length (scan (λ b. member b xs) p n) ≤ length xs
unfolding member
count-member [] p n = count_none p n
count-member (x ∷ xs) p n =
    omega (
      arith,
      count-both (λ b. eqb b x || member b xs) (λ b. eqb b x) (λ b. member b xs) p n (λ b l h. go (eqb b x) (member b xs)),
      count-once x p n,
      count-member xs p n,
    )
  where
    go : (t u : Bool) → cond (t || u) 1 0 ≤ cond t 1 0 + cond u 1 0
    go true u = omega arith
    go false u = omega arith

-- where a test holds only at blocks of a list and where another does, it finds no more than both
pub count-more : (test old : ℕ → Bool) (xs : List ℕ) (m : ℕ)
    → ((b : ℕ) → b < m → cond (test b) 1 0 ≤ cond (member b xs) 1 0 + cond (old b) 1 0)
    → length (from test m 0) ≤ length (from old m 0) + length xs
unfolding from
count-more test old xs m few =
    rw (sub-zero m)
    (omega (arith, count-both test (λ b. member b xs) old 0 m (λ b l h. few b (omega (arith, h))), count-member xs 0 m))

-- a list that has no block twice, of blocks below m, has no more than a scan of the volume finds in it
pub count-distinct : (xs : List ℕ) (m : ℕ) → Distinct xs → ((b : ℕ) → member b xs ≡ true → b < m) → length xs ≤ length (from (λ b. member b xs) m 0)
unfolding member from
count-distinct [] m d below = zero-le
count-distinct (x ∷ xs) m d below =
    let here = below x (member-first x x xs refl) in
    let found : 1 ≤ length (scan (λ b. eqb b x) 0 m) = count-found (λ b. eqb b x) 0 m x here (rw (zero-add x) (eq-eqb x x refl)) in
    let rest : length xs ≤ length (from (λ b. member b xs) m 0) = count-distinct xs m d.1 (λ b h. below b (member-rest b x xs h)) in
    omega (arith, rw (← sub-zero m) at found, rest, count-disjoint (λ b. eqb b x) (λ b. member b xs) (λ b. eqb b x || member b xs) m (λ b h. go b (eqb b x) (member b xs) refl refl))
  where
    go : (b : ℕ) (t u : Bool) → eqb b x ≡ t → member b xs ≡ u → cond t 1 0 + cond u 1 0 ≤ cond (t || u) 1 0
    go b true true e f = absurd (false≢true (sym d.0 ∙ sym (ap (λ (y : ℕ). member y xs) (eqb-true b x e)) ∙ f))
    go b true false e f = omega arith
    go b false u e f = omega arith

-- a scan in two parts, of which the first finds something if the test holds there
pub count-later : (test : ℕ → Bool) (m p n : ℕ) → p + n ≤ m → length (from test m (p + n)) ≤ length (from test m p)
unfolding from
count-later test m p n h =
    let all : n + (m - (p + n)) ≡ m - p = omega arith in
    omega (arith, count_add test p n (m - (p + n)), ap (λ (k : ℕ). length (scan test p k)) all)

pub count-here : (test : ℕ → Bool) (m p n i : ℕ) → p + n ≤ m → i < n → test (p + i) ≡ true → 1 + length (from test m (p + n)) ≤ length (from test m p)
unfolding from
count-here test m p n i h l e =
    let all : n + (m - (p + n)) ≡ m - p = omega arith in
    omega (arith, count_add test p n (m - (p + n)), ap (λ (k : ℕ). length (scan test p k)) all, count-found test p n i l e)

-- of a test that holds nowhere from m on, a larger volume has no more
pub count_past : (test : ℕ → Bool) (m k : ℕ) → m ≤ k → ((b : ℕ) → m ≤ b → test b ≡ false) → length (from test k 0) ≡ length (from test m 0)
unfolding from
count_past test m k h none =
    let past : from test k m ≡ [] = from-skip test k m k h (λ b l u. none b l) ∙ from_end test k k (le_refl k) in
    let all : m + (k - m) ≡ k = omega arith in
    rw (sub-zero m, sub-zero k)
    (omega (arith, ap length past, rw (zero-add m) at (count_add test 0 m (k - m)), ap (λ (n : ℕ). length (scan test 0 n)) all))

-- ---- the blocks of a volume by their two bits

module _ (m : ℕ) (sam «com» : List ℕ) where
  -- the allocated blocks are those being freed and those held
  pub allocated-parts : length (allocated_blocks m sam) ≡ length (freeing_blocks m sam «com») + length (held_blocks m sam «com»)
  unfolding allocated_blocks freeing_blocks is_freeing held_blocks is_held from
  allocated-parts = count-split (bit sam) (bit «com») 0 (m - 0)

  -- all others are available or being allocated
  unallocated-parts : length (scan (λ b. not (bit sam b)) 0 m) ≡ length (available_blocks m sam «com») + length (allocating_blocks m sam «com»)
  unfolding available_blocks is_available allocating_blocks is_allocating from
  unallocated-parts = rw (sub-zero m) (count-split (λ b. not (bit sam b)) (bit «com») 0 m)

  -- so the four kinds are all blocks
  pub four-kinds : length (available_blocks m sam «com») + length (allocating_blocks m sam «com») + length (freeing_blocks m sam «com») + length (held_blocks m sam «com») ≡ m
  unfolding allocated_blocks from
  four-kinds = omega (arith, unallocated-parts, rw (sub-zero m) at allocated-parts, count-split (λ b. true) (bit sam) 0 m, count-all 0 m)
