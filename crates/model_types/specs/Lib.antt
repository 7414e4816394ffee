-- What the values of the types mean: numbers of errors and answers, how a memory is made, changed and read, pending work.
pub mod Errors
pub mod Answers
pub mod Memory
pub mod Pending
pub mod Shape
