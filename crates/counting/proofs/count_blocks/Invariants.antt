-- The ones are those counted so far and those of the words behind.
use Prim.Native.Nat.{◌+◌, ◌-◌, ◌*◌, ◌^◌, ◌≤◌}
use mathlib.Core.Path.{◌≡◌}
use lib.ListN.{length}
use lib.Bits.{bit_and}
use Rattle.counting.specs.Count.{ones_of}
use Rattle.counting.proofs.count_blocks.Given as goal

abbrev pub invariant-loop-s : goal.invariant-loop-s
invariant-loop-s l =
    record {
      few_allocated : l.allocated ≤ 32 * length l.yielded;
      few_allocating : l.allocating ≤ 32 * length l.yielded;
      few_freeing : l.freeing ≤ 32 * length l.yielded;
      allocated : l.allocated + ones_of (λ s c. s) l.s-iterator.a.rest.now l.s-iterator.b.rest.now ≡ ones_of (λ s c. s) l.sam l.«com»;
      allocating :
          l.allocating + ones_of (λ s c. bit_and (2 ^ 32 - 1 - s) c) l.s-iterator.a.rest.now l.s-iterator.b.rest.now
          ≡ ones_of (λ s c. bit_and (2 ^ 32 - 1 - s) c) l.sam l.«com»;
      freeing :
          l.freeing + ones_of (λ s c. bit_and s (2 ^ 32 - 1 - c)) l.s-iterator.a.rest.now l.s-iterator.b.rest.now
          ≡ ones_of (λ s c. bit_and s (2 ^ 32 - 1 - c)) l.sam l.«com»;
    }
