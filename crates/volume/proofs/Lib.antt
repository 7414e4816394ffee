-- Lemmas of the calls' proofs.
pub mod Laws
