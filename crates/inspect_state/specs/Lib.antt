-- What is lent of the words that are kept.
pub mod Lent
