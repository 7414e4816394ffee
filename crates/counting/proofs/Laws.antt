-- How many blocks words have.
pub mod Count
pub mod Ones
pub mod Words
pub mod Available
