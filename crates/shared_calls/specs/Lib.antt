-- The specification of shared calls.
pub mod Serial
pub mod Logs
pub mod Stages
pub mod Rule
pub mod Plays
pub mod Callers
pub mod Views
pub mod Closing
