-- What the words that this crate's functions leave say of blocks.
pub mod Bitmap
pub mod Overwrite
pub mod Block
pub mod Combine
pub mod Compare
