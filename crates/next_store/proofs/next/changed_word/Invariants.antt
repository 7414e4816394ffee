-- The word that is looked for is the one behind `left` others of those still to come.
use Prim.Native.Nat.{◌+◌, ◌<◌}
use mathlib.Core.Path.{◌≡◌}
use lib.ListN.{length, take, drop}
use Rattle.bitmap.specs.Sizes.{bitmap_words}
use Rattle.model.specs.Rules.Stores.{changes, changes_from}
use Rattle.next_store.proofs.next.changed_word.Given as goal

abbrev pub invariant-loop-k : goal.invariant-loop-k
invariant-loop-k l =
    let k = l.k-iterator.count in
    let olds = l.k-iterator.iter.a.rest.now in
    let news = l.k-iterator.iter.b.rest.now in
    record {
      size : k + length olds ≡ bitmap_words;
      there : l.left < length (changes_from k olds news);
      found : take 1 (drop l.i (changes l.old l.new)) ≡ take 1 (drop l.left (changes_from k olds news));
    }
