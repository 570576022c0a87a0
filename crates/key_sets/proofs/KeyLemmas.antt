pub mod Ascending
pub mod Beside
pub mod Members
pub mod Places
pub mod Sides
