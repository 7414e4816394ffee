-- The numbers of a script.
pub mod Script
