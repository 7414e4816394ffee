-- The words that change match if those still to come do; `i` are before them.
use Prim.Native.Nat.{◌+◌}
use mathlib.Core.Path.{◌≡◌}
use lib.ListN.{length}
use Rattle.bitmap.specs.Sizes.{bitmap_words}
use Rattle.model.specs.Rules.Stores.{changes_from}
use Rattle.disk_match.specs.Matching.{changed_match}
use Rattle.disk_match.proofs.written.changed_match.Given as goal

abbrev pub invariant-loop-k : goal.invariant-loop-k
invariant-loop-k l =
    let k = l.k-iterator.count in
    let olds = l.k-iterator.iter.a.rest.now in
    let news = l.k-iterator.iter.b.rest.now in
    record {
      left : k + length olds ≡ bitmap_words;
      counted : l.i + length (changes_from k olds news) ≡ l.changed;
      match : changed_match l.disk l.done l.checkpointed 0 0 l.old l.new ≡ changed_match l.disk l.done l.checkpointed k l.i olds news;
    }
