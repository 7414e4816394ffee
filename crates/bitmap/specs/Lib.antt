-- What a bitmap is, and the laws by which all above this crate know it.
pub mod Sizes
pub mod Bits
pub mod Blocks
pub mod Extents
pub mod Round
pub mod Majority
