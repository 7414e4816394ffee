-- The order in which blocks are met going round: whatever rank rises along the way, it rises along the list.
use Prim.Native.Nat.{ℕ, zero, suc, ◌+◌, ◌≤◌, ◌<◌}
use native.Mathlib.Nat.{not-suc-le-zero, le_refl, le_of_suc-le-suc}
use native.Mathlib.Omega.{arith}
use mathlib.Core.Path.{◌≡◌, refl, sym, ap}
use mathlib.Core.Logic.{⊎_elim}
use mathlib.Core.Bool.{Bool, true, false, cond, false≢true}
use mathlib.Core.List.{List, [], ◌∷◌, ◌++◌, append-nil}
use lib.ListN.{length, get_or, take}
use lib.Dec.{ltb}
use borrow.Author.Tests.{lt-ltb, le-ltb}
use Rattle.bitmap.specs.Blocks.{from, member}
use Rattle.bitmap.specs.Round.{round_from}
use Rattle.bitmap.proofs.Laws.Blocks.{Distinct, append-member, member-cons, get_or-member, member-first, member-rest, member-from-true, from-rest}
use Rattle.bitmap.proofs.Laws.Extents.{member-some}
use Rattle.bitmap.proofs.Laws.Round.{first_found}

module _ (rank : ℕ → ℕ) where
  -- ---- each block of a list ranks below all after it

  abbrev pub Rises : List ℕ → Type 0
  Rises [] = Unit {0}
  Rises (x ∷ blocks) = ((y : ℕ) → member y blocks ≡ true → rank x < rank y) × Rises blocks

  -- so of two places the later one has the higher rank
  pub rises-at : (blocks : List ℕ) (i j : ℕ) → Rises blocks → i < j → j < length blocks → rank (get_or blocks i 0) < rank (get_or blocks j 0)
  rises-at [] i j r l h = absurd (not-suc-le-zero h)
  rises-at (x ∷ blocks) i zero r l h = absurd (not-suc-le-zero l)
  rises-at (x ∷ blocks) zero (suc j) r l h = r.0 (get_or blocks j 0) (get_or-member blocks j (le_of_suc-le-suc h))
  rises-at (x ∷ blocks) (suc i) (suc j) r l h = rises-at blocks i j r.1 (le_of_suc-le-suc l) (le_of_suc-le-suc h)

  -- a block ranked no higher than one of the first k is one of them
  pub rises-first : (blocks : List ℕ) (k b c : ℕ) → Rises blocks → member b (take k blocks) ≡ true → member c blocks ≡ true → rank c ≤ rank b
      → member c (take k blocks) ≡ true
  rises-first blocks zero b c r h m l = absurd (not-suc-le-zero (member-some b [] h))
  rises-first [] (suc k) b c r h m l = m
  rises-first (x ∷ blocks) (suc k) b c r h m l =
      ⊎_elim (λ e. member-first c x (take k blocks) e)
      (λ i.
      ⊎_elim (λ e. absurd (omega (arith, r.0 c i, ap rank e)))
      (λ j. member-rest c x (take k blocks) (rises-first blocks k b c r.1 j i l))
      (member-cons b x (take k blocks) h))
      (member-cons c x blocks m)

  -- and no block is in it twice
  pub rises-distinct : (blocks : List ℕ) → Rises blocks → Distinct blocks
  rises-distinct [] r = tt
  rises-distinct (x ∷ blocks) r = (go (member x blocks) refl, rises-distinct blocks r.1)
    where
      go : (t : Bool) → member x blocks ≡ t → t ≡ false
      go true e = absurd (omega (arith, r.0 x e))
      go false e = refl

  -- ---- going round

  -- what a scan finds rises if the rank does, and goes on rising with what ranks above it
  rises-onto : (test : ℕ → Bool) (m p : ℕ) (more : List ℕ)
      → ((a b : ℕ) → p ≤ a → a < b → b < m → rank a < rank b)
      → ((a b : ℕ) → p ≤ a → a < m → member b more ≡ true → rank a < rank b)
      → Rises more
      → Rises (from test m p ++ more)
  rises-onto test m p more up above rest = go (from test m p) p (le_refl p) refl
    where
      go : (l : List ℕ) (q : ℕ) → p ≤ q → from test m q ≡ l → Rises (l ++ more)
      go [] q h e = rest
      go (x ∷ l) q h e =
          let f = first_found test m q x l e in
          let low : p ≤ x = omega (arith, f.0) in (
            λ y k.
                ⊎_elim
                (λ i. let g = member-from-true test m (suc x) y (rw (← from-rest test m q x l e) i) in up x y low g.0 g.1)
                (above x y low f.1)
                (append-member y l more k),
            go l (suc x) (omega arith) (sym (from-rest test m q x l e)),
          )

  -- what is met going round rises if the rank does from p up to m, from there on to 0, and from 0 up to p
  pub round-rises : (test : ℕ → Bool) (m p : ℕ)
      → ((a b : ℕ) → p ≤ a → a < b → b < m → rank a < rank b)
      → ((a b : ℕ) → p ≤ a → a < m → b < p → rank a < rank b)
      → ((a b : ℕ) → a < b → b < p → rank a < rank b)
      → Rises (round_from test m p)
  unfolding round_from member
  round-rises test m p high wrap low =
      rises-onto test m p (from test p 0) high (λ a b l h k. wrap a b l h (member-from-true test p 0 b k).1)
      (rw append-nil at (rises-onto test p 0 [] (λ a b _. low a b) (λ a b _ _ k. absurd (false≢true k)) tt))

-- so no block is met twice, whatever is searched first: rank those before it behind all others
pub round-distinct : (test : ℕ → Bool) (m p : ℕ) → Distinct (round_from test m p)
round-distinct test m p =
    rises-distinct rank (round_from test m p)
    (round-rises rank test m p
    (λ a b l h k. omega (arith, from-there a l, from-there b (omega arith)))
    (λ a b l h k. omega (arith, from-there a l, before-it b k))
    (λ a b h k. omega (arith, before-it a (omega arith), before-it b k)))
  where
    rank : ℕ → ℕ
    rank b = cond (ltb b p) (b + m) b

    from-there : (b : ℕ) → p ≤ b → rank b ≡ b
    from-there b l = rw (le-ltb b p l)

    before-it : (b : ℕ) → b < p → rank b ≡ b + m
    before-it b l = rw (lt-ltb b p l)
