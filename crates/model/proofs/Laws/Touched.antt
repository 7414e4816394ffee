-- The blocks that a slot has touched.
pub mod Touches
pub mod TouchedBlocks
pub mod TouchedBy
