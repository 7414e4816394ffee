-- Available blocks, and what taking them leaves.
pub mod Available
pub mod Search
pub mod Take
