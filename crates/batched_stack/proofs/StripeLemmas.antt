pub mod Striped
pub mod Whole
