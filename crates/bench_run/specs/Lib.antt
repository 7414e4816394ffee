-- All of the input.
pub mod Whole
