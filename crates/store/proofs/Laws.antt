-- A valid memory's pending work and its next store, and the causes in turn.
pub mod Work
pub mod Next
pub mod Causes
