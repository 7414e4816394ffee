-- The next store that the code finds, and the model's store lists.
pub mod NextStore
pub mod NextOfCommit
