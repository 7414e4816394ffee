-- The starts next to a block, below and above it, and the nearest of all.
use Prim.Native.Nat.{ℕ, zero, suc, ◌+◌, ◌-◌, ◌*◌, ◌/◌, ◌%◌, ◌^◌, ◌≤◌, ◌<◌, zero-le}
use native.Mathlib.Nat.{le_refl, not-suc-le-zero, pos_of_ne-zero, eq-or-lt_of_le, le_of_suc-le-suc}
use native.Mathlib.Decide.{le_ind}
use native.Mathlib.Omega.{arith}
use mathlib.Core.Path.{◌≡◌, refl, sym, ap, ◌∙◌}
use mathlib.Core.Logic.{◌⊎◌, inl, inr, ⊎_elim}
use mathlib.Core.Bool.{Bool, true, false, cond, false≢true}
use mathlib.Core.List.{List, [], ◌∷◌}
use lib.ListN.{get_or}
use lib.Dec.{eqb}
use lib.Pow.{high as high_part}
use lib.Count.{count_leading_zeros, leading_top}
use Rattle.bitmap.specs.Bits.{is_set, bit}
use Rattle.bitmap.specs.Blocks.{from, member}
use Rattle.bitmap.specs.Extents.{distance, nearest}
use Rattle.bitmap.proofs.Laws.Word.{is_set-zero, is_set-small, is_set-cut, is_set-up, is_set-below}
use Rattle.bitmap.proofs.Laws.Bits.{below-or-from, bit_word}
use Rattle.bitmap.proofs.Laws.Blocks.{member-cons, member-from-true, member-first, member-from, from-rest}
use Rattle.bitmap.proofs.Laws.Extents.{member-some, nearest-is, nearest-none}
use Rattle.available.specs.Search.{IsWord}
use Rattle.extents.specs.Starts.{NoneFrom}
use Rattle.extents.specs.Nearest.{next_start, end_before, CanLook}

-- ---- above

-- the words of the starts
pub start-word : (words : List ℕ) → ((k : ℕ) → get_or words k 0 < 2 ^ 32) → (k word : ℕ) → word ≡ get_or words k 0 → IsWord (bit words) k word
start-word words small k word is = rw is (record { small = small k; bits = λ i h. sym (bit_word words k i h) })

-- ---- below

-- blocks without a bit are passed
end_step : (words : List ℕ) (p : ℕ) → bit words p ≡ false → end_before words (suc p) ≡ end_before words p
unfolding end_before
end_step words p e = ap (λ (t : Bool). cond t (suc p) (end_before words p)) e

pub end-skip : (words : List ℕ) (q p : ℕ) → q ≤ p → ((b : ℕ) → q ≤ b → b < p → bit words b ≡ false) → end_before words p ≡ end_before words q
end-skip words q p l none =
    le_ind (λ (k : ℕ). k ≤ p → end_before words k ≡ end_before words q) (λ _. refl)
    (λ k h ih u. end_step words k (none k h u) ∙ ih (omega arith)) p l (le_refl p)

-- one with a bit ends it
end-here : (words : List ℕ) (p : ℕ) → bit words p ≡ true → end_before words (suc p) ≡ suc p
unfolding end_before
end-here words p e = ap (λ (t : Bool). cond t (suc p) (end_before words p)) e

module _ (words : List ℕ) (last : ℕ) where
  abbrev word : ℕ
  word = get_or words (last / 32) 0

  abbrev shift : ℕ
  shift = 31 - last % 32

  -- last's word, shifted up so that last is its highest bit
  abbrev pub topped : ℕ
  topped = word * 2 ^ shift % 2 ^ 32

  topped-bit : (i : ℕ) → i < last % 32 + 1 → is_set topped (shift + i) ≡ bit words (32 * (last / 32) + i)
  topped-bit i h =
      is_set-cut (word * 2 ^ shift) 32 (shift + i) (omega arith)
      ∙ is_set-up word shift i
      ∙ sym (bit_word words (last / 32) i (omega arith))

  topped-low : (i : ℕ) → i < shift → is_set topped i ≡ false
  topped-low i h = is_set-cut (word * 2 ^ shift) 32 i (omega arith) ∙ is_set-below word shift i h

  -- it is 0: none of the word up to last
  pub end_none : topped ≡ 0 → end_before words (suc last) ≡ end_before words (last / 32 * 32)
  end_none e = end-skip words (last / 32 * 32) (suc last) (omega arith) none
    where
      none : (b : ℕ) → last / 32 * 32 ≤ b → b < suc last → bit words b ≡ false
      none b l h =
          let place : 32 * (last / 32) + (b - last / 32 * 32) ≡ b = omega arith in
          sym (ap (bit words) place)
          ∙ sym (topped-bit (b - last / 32 * 32) (omega arith))
          ∙ ap (λ (x : ℕ). is_set x (shift + (b - last / 32 * 32))) e
          ∙ is_set-zero (shift + (b - last / 32 * 32))

  -- it isn't: its highest bit is the last start
  module _ (j : ℕ) (all : count_leading_zeros 32 topped + suc j ≡ 32) (low : 2 ^ j ≤ topped) (high : topped < 2 ^ suc j) where
    highest : is_set topped j ≡ true
    unfolding is_set
    highest =
        let parts : topped ≡ 1 * 2 ^ j + (topped - 2 ^ j) = omega arith in
        let one : topped / 2 ^ j ≡ 1 = ap (λ (x : ℕ). x / 2 ^ j) parts ∙ high_part 1 j (omega arith) in
        ap (λ (x : ℕ). eqb (x % 2) 1) one

    from-shift : shift ≤ j
    from-shift = ⊎_elim (λ h. absurd (false≢true (sym (topped-low j h) ∙ highest))) (λ h. h) (below-or-from j shift)

    abbrev start : ℕ
    start = last - count_leading_zeros 32 topped

    start-set : bit words start ≡ true
    start-set =
        let place : 32 * (last / 32) + (j - shift) ≡ start = omega (arith, from-shift) in
        let above : shift + (j - shift) ≡ j = omega (arith, from-shift) in
        sym (ap (bit words) place) ∙ sym (topped-bit (j - shift) (omega (arith, from-shift))) ∙ ap (is_set topped) above ∙ highest

    none_above : (b : ℕ) → suc start ≤ b → b < suc last → bit words b ≡ false
    none_above b l h =
        let i : ℕ = b - 32 * (last / 32) in
        let place : 32 * (last / 32) + (b - 32 * (last / 32)) ≡ b = omega (arith, from-shift) in
        sym (ap (bit words) place)
        ∙ sym (topped-bit (b - 32 * (last / 32)) (omega arith))
        ∙ is_set-small topped (suc j) (shift + (b - 32 * (last / 32))) high (omega (arith, from-shift))

    found-there : (count_leading_zeros 32 topped ≤ last) × (end_before words (suc last) ≡ suc last - count_leading_zeros 32 topped)
    found-there = (
      omega (arith, from-shift),
      end-skip words (suc start) (suc last) (omega (arith, from-shift)) none_above ∙ end-here words start start-set ∙ omega (arith, from-shift),
    )

  pub end-found : (topped ≡ 0 → ⊥) → (count_leading_zeros 32 topped ≤ last) × (end_before words (suc last) ≡ suc last - count_leading_zeros 32 topped)
  end-found some =
      let top = leading_top 32 topped (pos_of_ne-zero some) (omega arith) in
      found-there top.0 top.1 top.2 top.3

-- what end-before tells: the block before it is the highest below p with a bit
pub end-none-below : (words : List ℕ) (p : ℕ) → end_before words p ≡ 0 → (b : ℕ) → b < p → bit words b ≡ false
unfolding end_before
end-none-below words zero e b h = absurd (not-suc-le-zero h)
end-none-below words (suc p) e b h = go (bit words p) refl e (end-none-below words p)
  where
    go : (t : Bool) → bit words p ≡ t → cond t (suc p) (end_before words p) ≡ 0
        → (end_before words p ≡ 0 → (b : ℕ) → b < p → bit words b ≡ false) → bit words b ≡ false
    go true f q ih = absurd (omega (arith, q))
    go false f q ih = ⊎_elim (λ r. ap (bit words) r ∙ f) (λ r. ih q b r) (eq-or-lt_of_le (le_of_suc-le-suc h))

pub record Below (words : List ℕ) (p e : ℕ) : Type 0 where
  pub within : e < p
  pub here : bit words e ≡ true
  pub none : (b : ℕ) → e < b → b < p → bit words b ≡ false

pub end-some-below : (words : List ℕ) (p e : ℕ) → end_before words p ≡ suc e → Below words p e
unfolding end_before
end-some-below words zero e q = absurd (omega (arith, q))
end-some-below words (suc p) e q = go (bit words p) refl q (end-some-below words p e)
  where
    go : (t : Bool) → bit words p ≡ t → cond t (suc p) (end_before words p) ≡ suc e
        → (end_before words p ≡ suc e → Below words p e) → Below words (suc p) e
    go true f r ih =
        let same : p ≡ e = omega (arith, r) in
        record { within = omega arith; here = sym (ap (bit words) same) ∙ f; none = λ b l h. absurd (omega arith) }
    go false f r ih =
        let rest = ih r in
        record {
          within = omega (arith, rest.within);
          here = rest.here;
          none = λ b l h. ⊎_elim (λ s. ap (bit words) s ∙ f) (λ s. rest.none b l s) (eq-or-lt_of_le (le_of_suc-le-suc h));
        }

-- and next-start: the lowest from p on with a bit, or m
pub record Above (words : List ℕ) (m p u : ℕ) : Type 0 where
  pub from_here : p ≤ u
  pub within : u ≤ m
  pub here : u < m → bit words u ≡ true
  pub none : (b : ℕ) → p ≤ b → b < u → bit words b ≡ false

-- a block without a bit: one with a bit would be found
unset : (words : List ℕ) (b : ℕ) → (bit words b ≡ true → ⊥) → bit words b ≡ false
unset words b h = go (bit words b) refl
  where
    go : (t : Bool) → bit words b ≡ t → bit words b ≡ false
    go true e = absurd (h e)
    go false e = e

pub next-above : (words : List ℕ) (m p : ℕ) → p ≤ m → Above words m p (next_start m words p)
unfolding next_start
next-above words m p h = go (from (bit words) m p) refl
  where
    found : (l : List ℕ) → from (bit words) m p ≡ l → (b : ℕ) → p ≤ b → b < m → bit words b ≡ true → member b l ≡ true
    found l e b k u t = sym (ap (member b) e) ∙ member-from (bit words) m p b k u t

    go : (l : List ℕ) → from (bit words) m p ≡ l → Above words m p (get_or l 0 m)
    go [] e =
        record {
          from_here = h;
          within = le_refl m;
          here = λ k. absurd (omega arith);
          none = λ b k u. unset words b (λ t. not-suc-le-zero (member-some b [] (found [] e b k u t)));
        }
    go (u ∷ rest) e =
        let f = member-from-true (bit words) m p u (ap (member u) e ∙ member-first u u rest refl) in
        record {
          from_here = f.0;
          within = omega (arith, f.1);
          here = λ k. f.2;
          none = λ b k l.
              unset words b
              (λ t.
              ⊎_elim (λ q. absurd (omega arith))
              (λ q.
              let r = member-from-true (bit words) m (suc u) b (sym (ap (member b) (from-rest (bit words) m p u rest e)) ∙ q) in
              absurd (omega (arith, r.0)))
              (member-cons b u rest (found (u ∷ rest) e b k (omega (arith, f.1)) t)));
        }

-- ---- the nearest of all

module _ (words : List ℕ) {m near : ℕ} (inside : near < m) (none : NoneFrom m words) where
  abbrev all : List ℕ
  all = from (bit words) m 0

  starts-at : (c : ℕ) → member c all ≡ true → (c < m) × (bit words c ≡ true)
  starts-at c h = let f = member-from-true (bit words) m 0 c h in (f.1, f.2)

  -- a start that no other is nearer than, nor lower at equal distance
  chosen : (b : ℕ) → b < m → bit words b ≡ true
      → ((c : ℕ) → bit words c ≡ true → c < m → distance near b ≤ distance near c)
      → ((c : ℕ) → bit words c ≡ true → c < m → distance near b ≡ distance near c → b ≤ c)
      → b ≡ nearest near m all
  chosen b l e least lower =
      nearest-is near m all b (member-from (bit words) m 0 b zero-le l e)
      (λ c h. let s = starts-at c h in least c s.1 s.0)
      (λ c h d. let s = starts-at c h in lower c s.1 s.0 d)

  module _ {u : ℕ} (up : Above words m near u) where
    -- a start is not passed: it is below near, or from u on
    not-passed : (c : ℕ) → bit words c ≡ true → (c < near) ⊎ (u ≤ c)
    not-passed c e =
        ⊎_elim inl
        (λ l. ⊎_elim (λ k. absurd (false≢true (sym (up.none c l k) ∙ e))) inr (below-or-from c u))
        (below-or-from c near)

    -- none below: the one above, or m
    pub only_above : ((b : ℕ) → b < near → bit words b ≡ false) → u ≡ nearest near m all
    unfolding distance
    only_above below = ⊎_elim some nothing (below-or-from u m)
      where
        upper : (c : ℕ) → bit words c ≡ true → u ≤ c
        upper c e = ⊎_elim (λ l. absurd (false≢true (sym (below c l) ∙ e))) (λ l. l) (not-passed c e)

        some : u < m → u ≡ nearest near m all
        some l =
            chosen u l (up.here l)
            (λ c e k. omega (arith, upper c e, up.from_here))
            (λ c e k d. upper c e)

        nothing : m ≤ u → u ≡ nearest near m all
        nothing l =
            let end : u ≡ m = omega (arith, up.within) in
            end ∙ sym (nearest-none near m all (λ c h. let s = starts-at c h in absurd (omega (arith, upper c s.1, s.0))))

    module _ {e : ℕ} (down : Below words near e) where
      -- a start is at or below e, or from u on
      either : (c : ℕ) → bit words c ≡ true → (c ≤ e) ⊎ (u ≤ c)
      either c t =
          ⊎_elim
          (λ l. ⊎_elim (λ k. absurd (false≢true (sym (down.none c k l) ∙ t))) inl (below-or-from e c))
          inr
          (not-passed c t)

      -- the one above is nearer
      pub above-nearer : u < m → u - near < near - e → u ≡ nearest near m all
      unfolding distance
      above-nearer l closer =
          chosen u l (up.here l)
          (λ c t k. ⊎_elim (λ q. omega (arith, up.from_here, down.within)) (λ q. omega (arith, up.from_here)) (either c t))
          (λ c t k d. ⊎_elim (λ q. omega (arith, up.from_here, down.within)) (λ q. q) (either c t))

      -- it isn't, or there is none
      pub below-nearest : (u < m → near - e ≤ u - near) → e ≡ nearest near m all
      unfolding distance
      below-nearest farther =
          chosen e (omega (arith, down.within)) down.here
          (λ c t k.
          ⊎_elim (λ q. omega (arith, down.within)) (λ q. let f : near - e ≤ u - near = farther (omega arith) in omega (arith, up.from_here)) (either c t))
          (λ c t k d.
          ⊎_elim (λ q. omega (arith, down.within)) (λ q. omega (arith, down.within, up.from_here)) (either c t))

-- ---- the start that the code gives: of the one above and the one below the nearer one

module _ (words : List ℕ) (m near : ℕ) where
  -- the one above lies from the block on, the one below before it
  pub next-from : near ≤ m → near ≤ next_start m words near
  next-from h = (next-above words m near h).from_here

  below-at : 1 ≤ end_before words near → Below words near (end_before words near - 1)
  below-at some = end-some-below words near (end_before words near - 1) (omega arith)

  pub end-within : end_before words near ≤ near
  end-within = ⊎_elim (λ h. omega arith) (λ h. omega (arith, (below-at h).within)) (below-or-from (end_before words near) 1)

  module _ (inside : near < m) (can : CanLook m words) where
    -- none below
    pub nearest-no_below : end_before words near ≡ 0 → nearest near m (from (bit words) m 0) ≡ next_start m words near
    nearest-no_below e = sym (only_above words inside can.none (next-above words m near (omega arith)) (end-none-below words near e))

    -- the one above is nearer
    pub nearest-above : 1 ≤ end_before words near → next_start m words near < m
        → next_start m words near - near < near - (end_before words near - 1)
        → nearest near m (from (bit words) m 0) ≡ next_start m words near
    nearest-above some h closer =
        sym (above-nearer words inside can.none (next-above words m near (omega arith)) (below-at some) h closer)

    -- it isn't
    pub nearest-below : 1 ≤ end_before words near → near - (end_before words near - 1) ≤ next_start m words near - near
        → nearest near m (from (bit words) m 0) ≡ end_before words near - 1
    nearest-below some farther =
        sym (below-nearest words inside can.none (next-above words m near (omega arith)) (below-at some) (λ _. farther))

    -- there is none above
    pub nearest-no_above : 1 ≤ end_before words near → m ≤ next_start m words near
        → nearest near m (from (bit words) m 0) ≡ end_before words near - 1
    nearest-no_above some none =
        sym (below-nearest words inside can.none (next-above words m near (omega arith)) (below-at some) (λ h. absurd (omega arith)))

-- all of these
pub ruleset nearest_steps = (next-from, end-within, nearest-no_below, nearest-above, nearest-below, nearest-no_above)
