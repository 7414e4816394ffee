-- What the code that compares a disk checks, word by word.
pub mod Matching
