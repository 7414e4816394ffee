-- Output that waits.
pub mod Waits
