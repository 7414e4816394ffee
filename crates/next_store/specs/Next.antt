-- The next store, and the entry that it is of.
use Rattle.std.specs.Prelude.{ℕ, ◌<◌, ◌≡◌, List, [], ◌∷◌, take, drop}
use Rattle.bitmap.specs.Sizes.{bitmap_words}
use Rattle.model.specs.Rules.Sizes.{disk_words}
use Rattle.model.specs.Rules.Stores.{Store, ◌≔◌, changes}

-- the changed word i is this one, with these new contents
pub record IsChange (old new : List ℕ) (i number contents : ℕ) : Type 0 where
  pub within : number < bitmap_words
  pub entry : take 1 (drop i (changes old new)) ≡ number ≔ contents ∷ []

-- a store of a list is the next after those done
pub record IsNext (stores : List Store) (done place value : ℕ) : Type 0 where
  pub within : place < disk_words
  pub next : take 1 (drop done stores) ≡ place ≔ value ∷ []
