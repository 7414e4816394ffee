-- The bytes kept of a line, and the state before the first line.
pub mod Keep
pub mod Begun
