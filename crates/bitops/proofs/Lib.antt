-- The laws of this crate's definitions, by which a caller knows what its functions do to blocks.
pub mod Laws
