-- Laws of reserve.
pub mod Reserve
