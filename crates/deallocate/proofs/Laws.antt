-- The causes of a call that gives a block back, and the bitmaps that it leaves.
pub mod Deallocate
