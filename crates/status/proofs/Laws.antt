-- Slots counted, and what the counts come to.
pub mod Status
