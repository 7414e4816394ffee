-- What the code on the words of bitmaps does, word by word.
pub mod Block
pub mod Combine
