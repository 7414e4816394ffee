-- What is known of every memory.
pub mod Shape
