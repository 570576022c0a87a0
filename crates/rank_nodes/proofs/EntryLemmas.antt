pub mod Ascending
pub mod Beside
pub mod Places
pub mod Ranks
pub mod Sides
