-- What the crates that stand on this one ask of what their functions are given.
pub mod Given
pub mod Phase
