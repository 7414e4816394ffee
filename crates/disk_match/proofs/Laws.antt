-- What the loops over a disk's words check, and the model's definitions.
pub mod InTurn
pub mod Checkpointed
pub mod LogWords
pub mod Matching
pub mod Kept
pub mod WordByWord
pub mod DiskMatches
pub mod Recovery
