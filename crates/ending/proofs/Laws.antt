-- Slots made new one after the other, and the memory after a commit by its parts.
pub mod Slots
pub mod Refreshed
pub mod Ended
