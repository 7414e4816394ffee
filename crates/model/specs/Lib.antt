-- What is promised: every rule of document 01, and of the jobs of document 02 that have landed, as a definition that computes; and what
-- follows from the rules, as statements that are proved.
pub mod Types
pub mod Rules
pub mod Promises
