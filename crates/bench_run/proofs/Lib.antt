-- Lemmas of the whole program.
pub mod Laws
