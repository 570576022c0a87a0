-- What is true of each draft.
pub mod Kept
