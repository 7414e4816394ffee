-- Laws of `valid`, and of what is left while it is tested.
pub mod Slots
pub mod LeftBits
pub mod Passed
pub mod Right
pub mod Maps
pub mod Reserved
pub mod Pending
pub mod Checked
