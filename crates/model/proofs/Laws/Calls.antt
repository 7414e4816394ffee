-- A call's causes and its answer.
pub mod First
pub mod Accepted
pub mod Answered
pub mod Turns
