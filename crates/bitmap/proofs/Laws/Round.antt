-- Going round a volume: what is met, how many, and how the search goes on behind the first block met.
use Prim.Native.Nat.{ℕ, zero, suc, ◌≤◌, ◌<◌, zero-le}
use native.Mathlib.Nat.{le_refl, eq-or-lt_of_le}
use native.Mathlib.Omega.{arith}
use mathlib.Core.Path.{◌≡◌, refl, sym, ap, ap₂, ◌∙◌}
use mathlib.Core.Logic.{◌⊎◌, ⊎_elim}
use mathlib.Core.Bool.{Bool, true, false, not, cond, ◌&&◌, ◌||◌, and-true, and-false, or-true, or-false}
use mathlib.Core.List.{List, [], ◌∷◌, ◌++◌, append-nil}
use lib.ListN.{length, get_or, take, drop, length-append}
use lib.Seq.{drop-cons, take_all, take-suc}
use lib.Dec.{eqb}
use borrow.Author.Tests.{eq-eqb, ne_eqb, eqb-true, eqb-false}
use Rattle.bitmap.specs.Sizes.{max_blocks}
use Rattle.bitmap.specs.Bits.{bit, bitmap_of}
use Rattle.bitmap.specs.Blocks.{from, is_available, member}
use Rattle.bitmap.specs.Round.{round_from, wrapped, after_last}
use Rattle.bitmap.proofs.Laws.Bits.{below-or-from, bit_below}
use Rattle.bitmap.proofs.Laws.Blocks.{member-append, append-member, member-cons, member-first, member-rest, member-take, member-from-true, member-from, from_end, from-rest, from-skip, from-same, from-append}

-- ---- the first block that a scan finds

module _ (test : ℕ → Bool) (m p x : ℕ) (rest : List ℕ) (is : from test m p ≡ x ∷ rest) where
  -- it is from p on, below m, and the test holds there
  pub first_found : (p ≤ x) × (x < m) × (test x ≡ true)
  first_found = member-from-true test m p x (rw is (member-first x x rest refl))

  -- and at none before it
  pub none_before : (b : ℕ) → p ≤ b → b < x → test b ≡ false
  none_before b l h = go (test b) refl
    where
      go : (t : Bool) → test b ≡ t → t ≡ false
      go false e = refl
      go true e =
          ⊎_elim (λ q. absurd (omega arith))
          (λ k. absurd (omega (arith, (member-from-true test m (suc x) b (rw (← from-rest test m p x rest is) k)).0)))
          (member-cons b x rest (rw (← is) (member-from test m p b l (omega (arith, first_found.1)) e)))

  -- so, with another test that fails there too, none is found up to it
  pub none-up-to : (other : ℕ → Bool) → ((b : ℕ) → p ≤ b → b < x → other b ≡ test b) → other x ≡ false → from other (suc x) p ≡ []
  none-up-to other same gone =
      from-skip other (suc x) p (suc x) (omega (arith, first_found.0))
      (λ b l h. ⊎_elim (λ e. ap other e ∙ gone) (λ k. same b l k ∙ none_before b l k) (lower b h))
      ∙ from_end other (suc x) (suc x) (le_refl (suc x))
    where
      lower : (b : ℕ) → b < suc x → (b ≡ x) ⊎ (b < x)
      lower b h = eq-or-lt_of_le (omega arith)

-- ---- going round

-- behind the first block met, and without it, the others are met in the same order
module _ (test other : ℕ → Bool) (m p x : ℕ) (rest : List ℕ) (inside : p ≤ m) (is : round_from test m p ≡ x ∷ rest)
    (same : (b : ℕ) → (b ≡ x → ⊥) → other b ≡ test b) (gone : other x ≡ false) where
  later : (q k : ℕ) → x < q → from other k q ≡ from test k q
  later q k h = from-same other test k q (λ b l _. same b (λ e. omega arith))

  -- it is found before the wrap
  ahead : (found : List ℕ) → from test m p ≡ x ∷ found → from other m (suc x) ++ from other (suc x) 0 ≡ found ++ from test p 0
  ahead found e =
      ap₂ ◌++◌
      (later (suc x) m (le_refl (suc x)) ∙ sym (from-rest test m p x found e))
      (from-append other (suc x) 0 p zero-le (omega (arith, f.0))
      ∙ ap₂ ◌++◌ (from-same other test p 0 (λ b _ h. same b (λ q. omega (arith, f.0)))) (none-up-to test m p x found e other (λ b l h. same b (λ q. omega arith)) gone)
      ∙ append-nil (from test p 0))
    where
      f : (p ≤ x) × (x < m) × (test x ≡ true)
      f = first_found test m p x found e

  -- or behind it
  below : from test m p ≡ [] → from test p 0 ≡ x ∷ rest → from other m (suc x) ++ from other (suc x) 0 ≡ rest
  below none e =
      ap₂ ◌++◌
      (later (suc x) m (le_refl (suc x))
      ∙ from-append test m (suc x) p (omega (arith, (first_found test p 0 x rest e).1)) inside
      ∙ ap₂ ◌++◌ (sym (from-rest test p 0 x rest e)) none
      ∙ append-nil rest)
      (none-up-to test p 0 x rest e other (λ b l h. same b (λ q. omega arith)) gone)
      ∙ append-nil rest

  pub round-next : round_from other m (suc x) ≡ rest
  unfolding round_from
  round-next = go (from test m p) refl is
    where
      go : (l : List ℕ) → from test m p ≡ l → l ++ from test p 0 ≡ x ∷ rest → from other m (suc x) ++ from other (suc x) 0 ≡ rest
      go [] e k = below e k
      go (y ∷ l) e k =
          let first : y ≡ x = cc in
          let tail : l ++ from test p 0 ≡ rest = cc in
          ahead l (rw first at e) ∙ tail

module _ (test : ℕ → Bool) (m p : ℕ) (inside : p ≤ m) where
  -- what is met are the blocks of the volume at which the test holds
  pub member-round : (b : ℕ) → member b (round_from test m p) ≡ true → (b < m) × (test b ≡ true)
  unfolding round_from
  member-round b h =
      ⊎_elim (λ k. let f = member-from-true test m p b k in (f.1, f.2))
      (λ k. let f = member-from-true test p 0 b k in (omega (arith, f.1), f.2))
      (append-member b (from test m p) (from test p 0) h)

  -- and all of them
  pub round-member : (b : ℕ) → b < m → test b ≡ true → member b (round_from test m p) ≡ true
  unfolding round_from
  round-member b h e =
      member-append b (from test m p) (from test p 0)
      ∙ ⊎_elim (λ l. rw (member-from test p 0 b zero-le l e, or-true)) (λ l. rw (member-from test m p b l h e)) (below-or-from b p)

  -- as many as there are
  pub round-length : length (round_from test m p) ≡ length (from test m 0)
  unfolding round_from
  round-length =
      omega (
        arith,
        length-append (from test m p) (from test p 0),
        length-append (from test p 0) (from test m p),
        ap length (from-append test m 0 p zero-le inside),
      )

  -- where none is from p on, they are the rising list
  pub round-low : from test m p ≡ [] → round_from test m p ≡ from test m 0
  unfolding round_from
  round-low none =
      ap (λ (l : List ℕ). l ++ from test p 0) none
      ∙ sym (from-append test m 0 p zero-le inside ∙ ap (λ (l : List ℕ). from test p 0 ++ l) none ∙ append-nil (from test p 0))

-- from block 0 on they are the rising list
pub round-zero : (test : ℕ → Bool) (m : ℕ) → round_from test m 0 ≡ from test m 0
unfolding round_from
round-zero test m = ap (λ (l : List ℕ). from test m 0 ++ l) (from_end test 0 0 zero-le) ∙ append-nil (from test m 0)

-- and so they are from m on
pub round-wrapped : (test : ℕ → Bool) (m p : ℕ) → round_from test m (wrapped m p) ≡ round_from test m p
unfolding wrapped round_from
round-wrapped test m p = go (eqb p m) refl
  where
    go : (t : Bool) → eqb p m ≡ t → round_from test m (cond t 0 p) ≡ round_from test m p
    go true e =
        let here : p ≡ m = eqb-true p m e in
        round-zero test m ∙ sym (rw here (ap (λ (l : List ℕ). l ++ from test m 0) (from_end test m m (le_refl m))))
    go false e = refl

-- ---- the block after the last one

-- of a list with one block more it is the one after that
pub after-last-snoc : (m p : ℕ) (blocks : List ℕ) (b : ℕ) → after_last m p (blocks ++ (b ∷ [])) ≡ wrapped m (suc b)
unfolding after_last
after-last-snoc m p [] b = refl
after-last-snoc m p (c ∷ blocks) b = after-last-snoc m (wrapped m (suc c)) blocks b

-- so it is the one after that in the list's last place
pub after-last-at : (m p : ℕ) (blocks : List ℕ) (n : ℕ) → length blocks ≡ suc n → after_last m p blocks ≡ wrapped m (suc (get_or blocks n 0))
after-last-at m p blocks n e =
    ap (after_last m p) (sym (take_all (suc n) blocks (omega arith)) ∙ take-suc blocks n 0 (omega arith))
    ∙ after-last-snoc m p (take n blocks) (get_or blocks n 0)

-- below m a place is itself
pub wrapped-below : (m p : ℕ) → p < m → wrapped m p ≡ p
unfolding wrapped
wrapped-below m p h = rw (ne_eqb p m (λ e. omega arith))

pub wrapped-end : (m : ℕ) → wrapped m m ≡ 0
unfolding wrapped
wrapped-end m = rw (eq-eqb m m refl)

-- and up to m it is wrapped to one below m
pub wrapped-lt : (m p : ℕ) → 1 ≤ m → p ≤ m → wrapped m p < m
unfolding wrapped
wrapped-lt m p some h = go (eqb p m) refl
  where
    go : (t : Bool) → eqb p m ≡ t → cond t 0 p < m
    go true e = omega arith
    go false e = omega (arith, eqb-false p m e)

-- after blocks of the volume the search goes on inside it
pub after-last-lt : (m p : ℕ) (blocks : List ℕ) → p < m → ((b : ℕ) → member b blocks ≡ true → b < m) → after_last m p blocks < m
unfolding after_last
after-last-lt m p [] h all = h
after-last-lt m p (b ∷ blocks) h all =
    after-last-lt m (wrapped m (suc b)) blocks (wrapped-lt m (suc b) (omega arith) (omega (arith, all b (member-first b b blocks refl))))
    (λ c k. all c (member-rest c b blocks k))

-- ---- the first blocks met taken out

-- tests that agree below m meet the same
pub round_same : (test other : ℕ → Bool) (m p : ℕ) → p ≤ m → ((b : ℕ) → b < m → test b ≡ other b) → round_from test m p ≡ round_from other m p
unfolding round_from
round_same test other m p inside same =
    ap₂ ◌++◌ (from-same test other m p (λ b _ h. same b h)) (from-same test other p 0 (λ b _ h. same b (omega arith)))

-- what is met without the blocks of a list
abbrev pub without : (ℕ → Bool) → List ℕ → ℕ → Bool
without test blocks b = test b && not (member b blocks)

module _ (test : ℕ → Bool) (m p : ℕ) (inside : p < m) where
  abbrev all : List ℕ
  all = round_from test m p

  -- after the first k the search goes on inside the volume
  pub after-met-lt : (k : ℕ) → after_last m p (take k all) < m
  after-met-lt k = after-last-lt m p (take k all) inside (λ b h. (member-round test m p (omega arith) b (member-take k b all h)).0)

  -- and, without them, the others are met from there on in the same order
  pub round-drop : (k : ℕ) → k ≤ length all → round_from (without test (take k all)) m (after_last m p (take k all)) ≡ drop k all
  unfolding member after_last
  round-drop zero h = round_same (without test []) test m p (omega arith) (λ b _. and-true (test b))
  round-drop (suc k) h =
      ap (λ (blocks : List ℕ). round_from (without test blocks) m (after_last m p blocks)) more
      ∙ ap (round_from (without test (take k all ++ (x ∷ []))) m) (after-last-snoc m p (take k all) x)
      ∙ round-wrapped (without test (take k all ++ (x ∷ []))) m (suc x)
      ∙ round-next (without test (take k all)) (without test (take k all ++ (x ∷ []))) m (after_last m p (take k all)) x (drop (suc k) all)
      (omega (arith, after-met-lt k)) (round-drop k (omega arith) ∙ drop-cons all k 0 (omega arith)) same gone
    where
      x : ℕ
      x = get_or all k 0

      more : take (suc k) all ≡ take k all ++ (x ∷ [])
      more = take-suc all k 0 (omega arith)

      same : (b : ℕ) → (b ≡ x → ⊥) → without test (take k all ++ (x ∷ [])) b ≡ without test (take k all) b
      same b n =
          ap (λ (t : Bool). test b && not t)
          (member-append b (take k all) (x ∷ []) ∙ ap (λ (t : Bool). member b (take k all) || t) (ap (λ (t : Bool). t || false) (ne_eqb b x n)) ∙ or-false (member b (take k all)))

      gone : without test (take k all ++ (x ∷ [])) x ≡ false
      gone =
          ap (λ (t : Bool). test x && not t)
          (member-append x (take k all) (x ∷ []) ∙ ap (λ (t : Bool). member x (take k all) || t) (member-first x x [] refl) ∙ or-true (member x (take k all)))
          ∙ and-false (test x)

-- with the blocks of a list put into COM, those are available that were, without them
pub available-without : (m : ℕ) (sam «com» blocks : List ℕ) (b : ℕ) → m ≤ max_blocks → b < m
    → is_available sam (bitmap_of m (λ x. member x blocks || bit «com» x)) b ≡ without (is_available sam «com») blocks b
unfolding is_available
available-without m sam «com» blocks b few inside =
    ap (λ (t : Bool). not (bit sam b) && not t) (bit_below m (λ x. member x blocks || bit «com» x) b few inside)
    ∙ go (bit sam b) (member b blocks) (bit «com» b)
  where
    go : (s t c : Bool) → (not s && not (t || c)) ≡ (not s && not c && not t)
    go true t c = refl
    go false true true = refl
    go false true false = refl
    go false false true = refl
    go false false false = refl
