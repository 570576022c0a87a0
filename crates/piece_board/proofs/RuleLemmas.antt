-- Each step on a board keeps its rule.
pub mod Entries
pub mod Lists
pub mod Places
pub mod Counts
pub mod Traces
pub mod Moves
pub mod Steps
pub mod Rows
