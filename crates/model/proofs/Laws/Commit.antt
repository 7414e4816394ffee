-- What a commit changes, and the memory after it.
pub mod Changes
pub mod Commit
pub mod Committed
pub mod CommittedTam
