-- The definitions at work: document 01's readings, extents, blocks taken in turn, reservations, and the lines of drop
-- and revoke.
pub mod Table
pub mod Extents
pub mod NextFit
pub mod Reserves
pub mod Lines
