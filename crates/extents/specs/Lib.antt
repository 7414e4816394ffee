-- What the code on extents makes: starts as the bits of words, the starts next to a block, and an extent that can be taken.
pub mod Starts
pub mod Nearest
pub mod Take
