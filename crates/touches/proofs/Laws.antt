-- Laws of the words that this crate's loops write and test.
pub mod Differ
pub mod Taking
pub mod Words
