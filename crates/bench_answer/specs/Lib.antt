-- What the contracts of this crate's functions cite. The answer line is defined in the crate model.
pub mod Put
