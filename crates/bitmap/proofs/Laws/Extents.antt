-- Extents: what a start tells, how longer extents follow from shorter ones, and that the nearest of a list is known by its laws.
use Prim.Native.Nat.{ℕ, zero, suc, ◌+◌, ◌-◌, ◌≤◌, ◌<◌, min, zero-le}
use native.Mathlib.Nat.{not-suc-le-zero, le_refl, le_of_suc-le-suc, add-zero, le_antisymm}
use native.Mathlib.Omega.{arith}
use mathlib.Core.Path.{◌≡◌, refl, sym, ap, ◌∙◌}
use mathlib.Core.Logic.{◌⊎◌, inl, inr, ⊎_elim}
use mathlib.Core.Bool.{Bool, true, false, cond, ◌&&◌, and-eq-true_iff, false≢true}
use mathlib.Core.List.{List, [], ◌∷◌}
use lib.ListN.{length, get_or}
use lib.Dec.{leb, ltb, eqb}
use borrow.Author.Tests.{leb-true, le-leb, ltb-true, ltb-false, eqb-true, eqb-false, lt-ltb}
use Rattle.bitmap.specs.Blocks.{member, all_below}
use Rattle.bitmap.specs.Extents.{adjoining, is_start, starts, distance, nearer, nearest_of, nearest}
use Rattle.bitmap.proofs.Laws.Bits.{below-or-from}
use Rattle.bitmap.proofs.Laws.Blocks.{Distinct, all_below-at, all_below-all, member-cons, member-first, member-rest, member-from-true, member-from}

-- ---- the blocks of an extent

pub get_or-adjoining : (p n i d : ℕ) → i < n → get_or (adjoining p n) i d ≡ p + i
unfolding adjoining
get_or-adjoining p zero i d h = absurd (not-suc-le-zero h)
get_or-adjoining p (suc n) zero d h = sym (add-zero p)
get_or-adjoining p (suc n) (suc i) d h = get_or-adjoining (suc p) n i d (le_of_suc-le-suc h) ∙ omega arith

pub length-adjoining : (p n : ℕ) → length (adjoining p n) ≡ n
unfolding adjoining
length-adjoining p zero = refl
length-adjoining p (suc n) = ap suc (length-adjoining (suc p) n)

pub member-adjoining : (b p n : ℕ) → member b (adjoining p n) ≡ true → (p ≤ b) × (b < p + n)
unfolding adjoining member
member-adjoining b p zero h = absurd (false≢true h)
member-adjoining b p (suc n) h =
    ⊎_elim (λ e. (omega arith, omega arith)) (λ k. let f = member-adjoining b (suc p) n k in (omega (arith, f.0), omega (arith, f.1)))
    (member-cons b p (adjoining (suc p) n) h)

pub distinct-adjoining : (p n : ℕ) → Distinct (adjoining p n)
unfolding adjoining
distinct-adjoining p zero = tt
distinct-adjoining p (suc n) = (go (member p (adjoining (suc p) n)) refl, distinct-adjoining (suc p) n)
  where
    go : (t : Bool) → member p (adjoining (suc p) n) ≡ t → t ≡ false
    go true e = absurd (omega (arith, (member-adjoining p (suc p) n e).0))
    go false e = refl

-- ---- starts

module _ (test : ℕ → Bool) (m n b : ℕ) where
  parts : is_start test m n b ≡ true → (leb (b + n) m ≡ true) × (all_below n (λ i. test (b + i)) ≡ true)
  unfolding is_start
  parts h = (and-eq-true_iff (leb (b + n) m) (all_below n (λ i. test (b + i)))).0 h

  -- an extent lies below m
  pub start-within : is_start test m n b ≡ true → b + n ≤ m
  start-within h = leb-true (b + n) m (parts h).0

  -- and the test holds at each of its blocks
  pub start-holds : (i : ℕ) → is_start test m n b ≡ true → i < n → test (b + i) ≡ true
  start-holds i h l = all_below-at n (λ i. test (b + i)) i (parts h).1 l

  -- and where both is so, one starts
  pub start_of : b + n ≤ m → ((i : ℕ) → i < n → test (b + i) ≡ true) → is_start test m n b ≡ true
  unfolding is_start
  start_of within holds =
      (and-eq-true_iff (leb (b + n) m) (all_below n (λ i. test (b + i)))).1
      (le-leb (b + n) m within, all_below-all n (λ i. test (b + i)) holds)

-- two tests are one if each follows from the other
both_ways : (s t : Bool) → (s ≡ true → t ≡ true) → (t ≡ true → s ≡ true) → s ≡ t
both_ways true true f g = refl
both_ways true false f g = sym (f refl)
both_ways false true f g = g refl
both_ways false false f g = refl

-- a longer extent is two that meet or overlap
pub start-longer : (test : ℕ → Bool) (m n k b : ℕ) → k ≤ n
    → is_start test m (n + k) b ≡ (is_start test m n b && is_start test m n (b + k))
start-longer test m n k b h =
    both_ways (is_start test m (n + k) b) (is_start test m n b && is_start test m n (b + k))
    (λ e. (and-eq-true_iff (is_start test m n b) (is_start test m n (b + k))).1 (left e, right e))
    (λ e. let both = (and-eq-true_iff (is_start test m n b) (is_start test m n (b + k))).0 e in joined both.0 both.1)
  where
    left : is_start test m (n + k) b ≡ true → is_start test m n b ≡ true
    left e =
        start_of test m n b (omega (arith, start-within test m (n + k) b e))
        (λ i l. start-holds test m (n + k) b i e (omega arith))

    right : is_start test m (n + k) b ≡ true → is_start test m n (b + k) ≡ true
    right e =
        start_of test m n (b + k) (omega (arith, start-within test m (n + k) b e))
        (λ i l. let q : b + (k + i) ≡ b + k + i = omega arith in sym (ap test q) ∙ start-holds test m (n + k) b (k + i) e (omega arith))

    joined : is_start test m n b ≡ true → is_start test m n (b + k) ≡ true → is_start test m (n + k) b ≡ true
    joined e f =
        start_of test m (n + k) b (omega (arith, start-within test m n (b + k) f))
        (λ i l.
        ⊎_elim (λ u. start-holds test m n b i e u)
        (λ u.
        let q : b + k + (i - k) ≡ b + i = omega arith in
        sym (ap test q) ∙ start-holds test m n (b + k) (i - k) f (omega arith))
        (below-or-from i n))

-- an extent of one block is a block at which the test holds
pub start-one : (test : ℕ → Bool) (m b : ℕ) → is_start test m 1 b ≡ (test b && ltb b m)
start-one test m b =
    both_ways (is_start test m 1 b) (test b && ltb b m)
    (λ e. (and-eq-true_iff (test b) (ltb b m)).1 (sym (ap test (add-zero b)) ∙ start-holds test m 1 b 0 e (omega arith), lt-ltb b m (omega (arith, start-within test m 1 b e))))
    (λ e.
    let both = (and-eq-true_iff (test b) (ltb b m)).0 e in
    start_of test m 1 b (omega (arith, ltb-true b m both.1)) (λ i l. let q : b + i ≡ b = omega arith in ap test q ∙ both.0))

-- ---- the list of starts

-- whatever has a block has some
pub member-some : (b : ℕ) (blocks : List ℕ) → member b blocks ≡ true → 1 ≤ length blocks
unfolding member
member-some b [] h = absurd (false≢true h)
member-some b (x ∷ blocks) h = omega arith

pub starts-are : (test : ℕ → Bool) (m n b : ℕ) → member b (starts test m n) ≡ true → is_start test m n b ≡ true
unfolding starts
starts-are test m n b h = (member-from-true (is_start test m n) m 0 b h).2

pub starts-all : (test : ℕ → Bool) (m n b : ℕ) → 1 ≤ n → is_start test m n b ≡ true → member b (starts test m n) ≡ true
unfolding starts
starts-all test m n b some h = member-from (is_start test m n) m 0 b zero-le (omega (arith, start-within test m n b h)) h

-- ---- the nearest

pub distance-same : (a : ℕ) → distance a a ≡ 0
unfolding distance
distance-same a = omega arith

pub distance-zero : (a b : ℕ) → distance a b ≡ 0 → a ≡ b
unfolding distance
distance-zero a b e = omega arith

-- b is as near as c, and not above it at equal distance
record Before (near b c : ℕ) : Type 0 where
  near_as : distance near b ≤ distance near c
  lower : distance near b ≡ distance near c → b ≤ c

before_self : (near b : ℕ) → Before near b b
before_self near b = record { near_as = le_refl (distance near b); lower = λ e. le_refl b }

before-trans : (near a b c : ℕ) → Before near a b → Before near b c → Before near a c
before-trans near a b c x y =
    record {
      near_as = omega (arith, x.near_as, y.near_as);
      lower = λ e.
          let f : distance near a ≡ distance near b = omega (arith, x.near_as, y.near_as) in
          let g : distance near b ≡ distance near c = omega (arith, x.near_as, y.near_as) in
          omega (arith, x.lower f, y.lower g);
    }

-- of two blocks the nearer is before both, and one of them
record Chosen (near a b c : ℕ) : Type 0 where
  first : Before near c a
  second : Before near c b
  one : (c ≡ a) ⊎ (c ≡ b)

nearer-chosen : (near a b : ℕ) → Chosen near a b (nearer near a b)
unfolding nearer
nearer-chosen near a b = go (eqb (distance near a) (distance near b)) refl (ltb (distance near a) (distance near b)) refl
  where
    even : distance near a ≡ distance near b → (a < b) ⊎ (b ≤ a) → Chosen near a b (min a b)
    even e (inl l) =
        let q : min a b ≡ a = omega arith in
        rw q (record { first = before_self near a; second = record { near_as = omega arith; lower = λ _. omega arith }; one = inl refl })
    even e (inr l) =
        let q : min a b ≡ b = omega arith in
        rw q (record { first = record { near_as = omega arith; lower = λ _. omega arith }; second = before_self near b; one = inr refl })

    go : (t : Bool) → eqb (distance near a) (distance near b) ≡ t → (u : Bool) → ltb (distance near a) (distance near b) ≡ u
        → Chosen near a b (cond t (min a b) (cond u a b))
    go true e u f = even (eqb-true _ _ e) (below-or-from a b)
    go false e true f =
        let l : distance near a < distance near b = ltb-true _ _ f in
        record { first = before_self near a; second = record { near_as = omega arith; lower = λ q. absurd (omega arith) }; one = inl refl }
    go false e false f =
        let l : distance near b ≤ distance near a = ltb-false _ _ f in
        record {
          first = record { near_as = l; lower = λ q. absurd (eqb-false _ _ e (sym q)) };
          second = before_self near b;
          one = inr refl;
        }

-- the nearest of a list is before all of its blocks, and one of them
record First (near : ℕ) (blocks : List ℕ) (b : ℕ) : Type 0 where
  is_one : member b blocks ≡ true
  before : (c : ℕ) → member c blocks ≡ true → Before near b c

nearest_of-first : (near b : ℕ) (blocks : List ℕ) → First near (b ∷ blocks) (nearest_of near b blocks)
unfolding nearest_of
nearest_of-first near b [] =
    record {
      is_one = member-first b b [] refl;
      before = λ c h.
          ⊎_elim (λ e. rw e (before_self near b)) (λ k. absurd (not-suc-le-zero (member-some c [] k))) (member-cons c b [] h);
    }
nearest_of-first near b (c ∷ blocks) = go (nearest_of-first near c blocks)
  where
    x : ℕ
    x = nearest_of near c blocks

    chosen : Chosen near b x (nearer near b x)
    chosen = nearer-chosen near b x

    go : First near (c ∷ blocks) x → First near (b ∷ c ∷ blocks) (nearer near b x)
    go rest =
        record {
          is_one =
              ⊎_elim (λ e. member-first (nearer near b x) b (c ∷ blocks) e)
              (λ e. member-rest (nearer near b x) b (c ∷ blocks) (ap (λ (y : ℕ). member y (c ∷ blocks)) e ∙ rest.is_one))
              chosen.one;
          before = λ d h.
              ⊎_elim (λ e. rw e chosen.first)
              (λ k. before-trans near (nearer near b x) x d chosen.second (rest.before d k))
              (member-cons d b (c ∷ blocks) h);
        }

nearest-first : (near m : ℕ) (blocks : List ℕ) → 1 ≤ length blocks → First near blocks (nearest near m blocks)
unfolding nearest
nearest-first near m [] h = absurd (not-suc-le-zero h)
nearest-first near m (b ∷ blocks) h = nearest_of-first near b blocks

pub nearest-member : (near m : ℕ) (blocks : List ℕ) → 1 ≤ length blocks → member (nearest near m blocks) blocks ≡ true
nearest-member near m blocks h = (nearest-first near m blocks h).is_one

pub nearest-least : (near m : ℕ) (blocks : List ℕ) (c : ℕ) → member c blocks ≡ true → distance near (nearest near m blocks) ≤ distance near c
nearest-least near m blocks c h = ((nearest-first near m blocks (member-some c blocks h)).before c h).near_as

pub nearest-lower : (near m : ℕ) (blocks : List ℕ) (c : ℕ) → member c blocks ≡ true
    → distance near (nearest near m blocks) ≡ distance near c
    → nearest near m blocks ≤ c
nearest-lower near m blocks c h e = ((nearest-first near m blocks (member-some c blocks h)).before c h).lower e

-- of no blocks it is m
pub nearest-none : (near m : ℕ) (blocks : List ℕ) → ((c : ℕ) → member c blocks ≡ true → ⊥) → nearest near m blocks ≡ m
unfolding nearest
nearest-none near m [] none = refl
nearest-none near m (b ∷ blocks) none = absurd (none b (member-first b b blocks refl))

-- a block of the list that no other is nearer than, nor lower at equal distance, is the nearest
pub nearest-is : (near m : ℕ) (blocks : List ℕ) (b : ℕ) → member b blocks ≡ true
    → ((c : ℕ) → member c blocks ≡ true → distance near b ≤ distance near c)
    → ((c : ℕ) → member c blocks ≡ true → distance near b ≡ distance near c → b ≤ c)
    → b ≡ nearest near m blocks
nearest-is near m blocks b h least lower =
    let x : ℕ = nearest near m blocks in
    let here : member x blocks ≡ true = nearest-member near m blocks (member-some b blocks h) in
    let e : distance near b ≡ distance near x = le_antisymm (least x here) (nearest-least near m blocks b h) in
    le_antisymm (lower x here e) (nearest-lower near m blocks b h (sym e))
