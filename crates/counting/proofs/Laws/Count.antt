-- The blocks of a word counted: the ones of a word whose bits are those of a test.
use Prim.Native.Nat.{ℕ, zero, suc, ◌+◌, ◌/◌, ◌^◌, ◌≤◌, ◌<◌}
use native.Mathlib.Nat.{add-zero, le_step}
use native.Mathlib.Omega.{arith}
use mathlib.Core.Path.{◌≡◌, sym, ap, ◌∙◌}
use mathlib.Core.Logic.{⊎_elim}
use mathlib.Core.Bool.{Bool, true, false, cond}
use mathlib.Core.List.{◌∷◌}
use lib.ListN.{length}
use lib.Arith.{lt-one}
use lib.Count.{ones, ones_step}
use Rattle.bitmap.specs.Bits.{is_set}
use Rattle.bitmap.specs.Blocks.{from}
use Rattle.bitmap.proofs.Laws.Word.{is_set-half, half-and-low}
use Rattle.bitmap.proofs.Laws.Bits.{below-or-from}
use Rattle.bitmap.proofs.Laws.Blocks.{from_step, from_end}

-- of a test that holds nowhere from m on
module _ (test : ℕ → Bool) (m : ℕ) (none : (b : ℕ) → m ≤ b → test b ≡ false) where
  -- a scan takes a block if the test holds there, and goes on, past m too
  scan_step : (p : ℕ) → from test m p ≡ cond (test p) (p ∷ from test m (suc p)) (from test m (suc p))
  scan_step p =
      ⊎_elim (from_step test m p) (λ h. from_end test m p h ∙ rw (none p h) (sym (from_end test m (suc p) (le_step h)))) (below-or-from p m)

  -- one more if the test holds at the first
  count-step : (p : ℕ) → length (from test m p) ≡ cond (test p) 1 0 + length (from test m (suc p))
  count-step p = ap length (scan_step p) ∙ go (test p)
    where
      go : (t : Bool) → length (cond t (p ∷ from test m (suc p)) (from test m (suc p))) ≡ cond t 1 0 + length (from test m (suc p))
      go true = omega arith
      go false = omega arith

  -- the ones of a word whose bits are the test's from p on
  pub count_word : (n w p : ℕ) → w < 2 ^ n → ((i : ℕ) → i < n → is_set w i ≡ test (p + i)) → ones w + length (from test m (p + n)) ≡ length (from test m p)
  unfolding ones
  count_word zero w p h same = rw (lt-one h, add-zero p) (omega arith)
  count_word (suc n) w p h same =
      let low = half-and-low w in
      let first : is_set w 0 ≡ test p = same 0 (omega arith) ∙ ap test (add-zero p) in
      let rest : ones (w / 2) + length (from test m (suc p + n)) ≡ length (from test m (suc p)) =
      count_word n (w / 2) (suc p) (omega arith) (λ i l. sym (is_set-half w i) ∙ same (suc i) (omega arith) ∙ ap test (omega arith)) in
      let end : p + suc n ≡ suc p + n = omega arith in
      rw end (omega (arith, ones_step w, count-step p, rest, ap {B = ℕ} (λ (t : Bool). cond t 1 0) first))
