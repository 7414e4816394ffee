-- What is asked of pending work.
pub mod Progress
