-- The promises: what the rules come to, of every memory and every call.
pub mod FourCounts
pub mod CommitCost
pub mod Extents
pub mod NextFit
pub mod DropRevoke
pub mod Reservations
