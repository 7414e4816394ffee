-- Where a line ends, what is printed, and the lines of a piece of input.
pub mod Cut
pub mod Output
pub mod Lines
