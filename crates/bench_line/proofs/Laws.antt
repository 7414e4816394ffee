-- The laws of this crate.
pub mod Prefix
pub mod Digits
pub mod Fields
pub mod Ops
pub mod Line
