-- What the piece of work makes of a memory.
pub mod Rollback
