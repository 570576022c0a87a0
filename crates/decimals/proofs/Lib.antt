mod Numbers
mod Ranges
pub mod Runs
pub mod Decimals
