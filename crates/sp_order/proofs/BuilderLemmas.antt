pub mod Preorders
pub mod Steps
pub mod Reads
