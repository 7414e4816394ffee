-- The stores that a commit is due.
pub mod Due
