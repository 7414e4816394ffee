-- What the memory's test tells of the available blocks.
pub mod Available
