-- Works, and pending work run to its end.
pub mod Work
pub mod Change
pub mod ChangeMade
pub mod CommitOf
pub mod Pending
pub mod Progress
pub mod DueStores
pub mod Stored
