pub mod Ranks
pub mod Roots
pub mod Runs
