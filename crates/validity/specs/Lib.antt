-- What the contracts of this crate cite beside model's `valid`.
pub mod Checked
pub mod Fit
pub mod Pending
