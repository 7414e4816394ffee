-- Tests, the log, the bitmap, replay, what functions are given, and changed words.
pub mod Tests
pub mod Log
pub mod Replay
pub mod Given
pub mod ChangedWord
