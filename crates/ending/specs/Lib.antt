-- What a commit's end makes of the slots.
pub mod Ended
