-- What functions of several crates ask of what they are given, and how the entries of a log are read.
use Rattle.std.specs.Prelude.{ℕ, ◌≤◌, ◌≡◌, true, List, get_or}
use Rattle.bitmap.specs.Sizes.{max_blocks}
use Rattle.model.specs.Rules.Stores.{Store, ◌≔◌}
use Rattle.model.specs.Rules.Disk.{disk_blocks, log_valid}

-- two words of a log: an entry's number, then its contents
abbrev pub entry_of : List ℕ → Store
entry_of words = get_or words 0 0 ≔ get_or words 1 0

-- a disk with a valid log
pub record Logged (disk : List ℕ) : Type 0 where
  pub few_blocks : disk_blocks disk ≤ max_blocks
  pub log : log_valid disk ≡ true
