-- Laws of reservations added up one after the other.
pub mod Sums
pub mod Few
