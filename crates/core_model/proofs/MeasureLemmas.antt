pub mod Jobs
pub mod Gate
pub mod Lowers
