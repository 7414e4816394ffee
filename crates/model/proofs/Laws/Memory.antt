-- The memory and its parts: valid memory, and the memory that each change leaves.
pub mod Fields
pub mod Numbers
pub mod Valid
pub mod Fit
pub mod Opened
pub mod Reserves
pub mod Rollback
pub mod Taking
pub mod Granting
pub mod Untouched
