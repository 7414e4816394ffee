-- The laws of this crate.
pub mod Put
pub mod Decimal
pub mod Answer
