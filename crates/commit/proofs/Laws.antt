-- A commit that changes no word, and the stores of one that does.
pub mod Unchanged
pub mod Commit
