-- There are at most 128 changed words.
use native.Mathlib.Omega.{arith}
use mathlib.Core.Path.{◌≡◌}
use lib.ListN.{length}
use Rattle.bitmap.specs.Sizes.{bitmap_words}
use Rattle.model.proofs.Laws.Commit.Changes.{changes-length}
use Rattle.commit.proofs.stores_due.Goals as goal

pub stores_for-requires : goal.stores_for-requires
stores_for-requires c =
    let size : length c.args.sam.now ≡ bitmap_words = cc in
    omega (arith, c.changed-words.ensures, changes-length c.args.sam.now c.args.tam.now, size)
