-- The laws of the line's definitions, by which the functions' proofs know them.
pub mod Laws
