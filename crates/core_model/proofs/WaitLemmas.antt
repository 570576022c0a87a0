pub mod Rows
pub mod Places
pub mod Keeps
pub mod Runs
pub mod From
