mod Ranges
pub mod Pairing
mod Placing
