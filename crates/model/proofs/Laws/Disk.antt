-- The disk by its parts, its log, and what it stands for.
pub mod Writes
pub mod Places
pub mod Entries
pub mod StoreLists
pub mod Parts
pub mod CommitLog
pub mod RecoveryLog
pub mod Closing
pub mod Durable
pub mod Matching
