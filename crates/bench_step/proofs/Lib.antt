-- Lemmas of the lines.
pub mod Laws
