-- The bytes kept.
pub mod Keep
