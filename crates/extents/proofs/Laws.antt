-- Words made anew one after the other, the starts of extents as their bits, the nearest of them, and an extent taken.
pub mod Words
pub mod Starts
pub mod Nearest
pub mod Take
