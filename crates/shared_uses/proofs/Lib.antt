pub mod Draws
pub mod Adds
pub mod Inserts
pub mod Passes
