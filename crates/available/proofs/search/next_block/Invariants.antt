-- No block before `block` is one, so those from it on are those from `start` on.
use Prim.Native.Nat.{ℕ, ◌-◌, ◌≤◌, ◌<◌}
use mathlib.Core.Path.{◌≡◌}
use mathlib.Core.Bool.{Bool, false}
use Rattle.bitmap.specs.Sizes.{words_for}
use Rattle.bitmap.specs.Blocks.{from}
use Rattle.available.specs.Search.{IsWord}
use Rattle.available.proofs.search.next_block.Given as goal

abbrev pub invariant-loop-block : goal.invariant-loop-block
invariant-loop-block g l =
    (test : ℕ → Bool) → ((k word : ℕ) → k < words_for l.blocks → goal.F-post g l.word k word → IsWord test k word)
    → ((b : ℕ) → l.blocks ≤ b → test b ≡ false)
    → from test l.blocks l.start ≡ from test l.blocks l.block

abbrev pub decreases-loop-block : goal.decreases-loop-block
decreases-loop-block g l = l.blocks - l.block
