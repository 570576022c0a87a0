pub mod Drafting
pub mod Unnamed
