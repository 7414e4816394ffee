-- What is printed of the counts.
pub mod Shown
