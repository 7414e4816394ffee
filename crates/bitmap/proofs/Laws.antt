-- The laws of words, bitmaps and lists of blocks, on which all proofs above this crate stand.
pub mod Word
pub mod Bits
pub mod Blocks
pub mod Search
pub mod Extents
pub mod Round
pub mod Ahead
pub mod Majority
pub mod Count
