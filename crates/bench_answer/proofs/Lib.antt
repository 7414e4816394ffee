-- The laws of the answer line's definitions, by which the functions' proofs know them.
pub mod Laws
