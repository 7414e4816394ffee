-- What the contracts of this crate cite beside model's definitions.
pub mod Few
pub mod Sums
