-- Laws that follow from the definitions, by what they are about.
pub mod Rows
pub mod Memory
pub mod Touched
pub mod Commit
pub mod Disk
pub mod Calls
pub mod Works
pub mod Promises
