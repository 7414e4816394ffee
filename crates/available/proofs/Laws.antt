-- Available blocks and scans.
pub mod Available
pub mod Search
pub mod Scan
pub mod Take
pub mod Took
