-- The promises, proved.
pub mod FourCounts
pub mod CommitCost
pub mod DropRevoke
pub mod Extents
pub mod NextFit
pub mod Reservations
pub mod ForOthers
pub mod ReservationStays
