-- The laws of this crate, by which all above it know the definitions.
pub mod Laws
