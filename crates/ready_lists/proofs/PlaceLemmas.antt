pub mod Written
pub mod Copies
