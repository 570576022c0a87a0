pub mod Cutting
pub mod Ranking
pub mod Searching
