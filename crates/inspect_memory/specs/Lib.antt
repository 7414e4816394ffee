-- A part of the memory overwritten.
pub mod Overwritten
