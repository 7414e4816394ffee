-- What the next store is.
pub mod Next
