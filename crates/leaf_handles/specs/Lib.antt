-- The handles of a job's leaves, as contracts see them.
pub mod Handles
