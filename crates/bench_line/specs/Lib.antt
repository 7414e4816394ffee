-- What the contracts of this crate's functions cite. The line is defined in the crate model.
pub mod Number
pub mod Ops
