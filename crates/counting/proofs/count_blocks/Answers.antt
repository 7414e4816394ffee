-- A word of each more is counted; at the end none is left.
use Prim.Native.Nat.{ℕ, ◌+◌, ◌-◌, ◌^◌, ◌≤◌}
use native.Mathlib.Omega.{arith}
use mathlib.Core.Path.{◌≡◌}
use mathlib.Core.Logic.{⊎_elim}
use mathlib.Core.List.{[], ◌∷◌}
use lib.ListN.{length, length-append}
use lib.Bits.{bit_and, and_le_l, and_le_r}
use lib.Count.{ones}
use Rattle.std.proofs.lemmas.Nat.{ones-le}
use Rattle.bitmap.specs.Bits.{IsBitmap}
use Rattle.counting.specs.Count.{ones_of}
use Rattle.counting.proofs.Laws.Ones.{ones_step, ones_none, ones_none_right}
use Rattle.counting.proofs.Laws.Words.{ones-allocated, ones-allocating, ones-freeing}
use Rattle.counting.proofs.count_blocks.Goals as goal

pub loop-s-preserved : goal.loop-s-preserved
loop-s-preserved c =
    let n = length c.loop-s.yielded in
    let i = c.loop-s.invariant in
    let one = length-append c.loop-s.yielded ((c.in-Some.s, c.in-Some.c) ∷ []) in
    let few : ones c.in-Some.s.now ≤ 32 = grind (arith, ones-le 32) in
    let few_allocating : ones (bit_and (2 ^ 32 - 1 - c.in-Some.s.now) c.in-Some.c.now) ≤ 32 =
    ones-le 32 _ (omega (arith, and_le_l (2 ^ 32 - 1 - c.in-Some.s.now) c.in-Some.c.now)) in
    let few_freeing : ones (bit_and c.in-Some.s.now (2 ^ 32 - 1 - c.in-Some.c.now)) ≤ 32 =
    ones-le 32 _ (omega (arith, and_le_r c.in-Some.s.now (2 ^ 32 - 1 - c.in-Some.c.now))) in
    let more : (g : ℕ → ℕ → ℕ) (count : ℕ)
    → count + ones_of g c.loop-s.s-iterator.a.rest.now c.loop-s.s-iterator.b.rest.now ≡ ones_of g c.args.sam.now c.args.«com».now
    → count + ones (g c.in-Some.s.now c.in-Some.c.now) + ones_of g c.next.new.self.a.rest.now c.next.new.self.b.rest.now ≡ ones_of g c.args.sam.now c.args.«com».now =
    λ g count h.
    let had = rw (c.in-Some.ensures.steps.0, c.in-Some.ensures.steps.1) at h in
    omega (arith, had, ones_step g c.in-Some.s.now c.in-Some.c.now c.next.new.self.a.rest.now c.next.new.self.b.rest.now) in
    record {
      few_allocated = rw one (omega arith);
      few_allocating = rw one (omega arith);
      few_freeing = rw one (omega arith);
      allocated = more (λ s c. s) c.loop-s.allocated i.allocated;
      allocating = more (λ s c. bit_and (2 ^ 32 - 1 - s) c) c.loop-s.allocating i.allocating;
      freeing = more (λ s c. bit_and s (2 ^ 32 - 1 - c)) c.loop-s.freeing i.freeing;
    }

pub returns : goal.returns
returns c =
    let i = c.loop-s.invariant in
    let none : (g : ℕ → ℕ → ℕ) → ones_of g c.loop-s.s-iterator.a.rest.now c.loop-s.s-iterator.b.rest.now ≡ 0 =
    λ g. ⊎_elim (λ p. ones_none g _ c.loop-s.s-iterator.b.rest.now p.1.0) (λ p. ones_none_right g c.loop-s.s-iterator.a.rest.now _ p.1.0) c.in-None.ensures.steps in
    let sam : IsBitmap c.args.sam.now = record { size = c.told-sam; small = c.fits-sam } in
    let «com» : IsBitmap c.args.«com».now = record { size = c.told-com; small = c.fits-com } in
    record {
      allocated = omega (arith, i.allocated, none (λ s c. s), ones-allocated c.args.sam.now c.args.«com».now sam «com»);
      allocating = omega (arith, i.allocating, none (λ s c. bit_and (2 ^ 32 - 1 - s) c), ones-allocating c.args.sam.now c.args.«com».now sam «com»);
      freeing = omega (arith, i.freeing, none (λ s c. bit_and s (2 ^ 32 - 1 - c)), ones-freeing c.args.sam.now c.args.«com».now sam «com»);
    }
