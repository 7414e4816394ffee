-- Laws of commit cost.
pub mod CommitCost
