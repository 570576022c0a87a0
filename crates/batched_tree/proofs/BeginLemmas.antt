pub mod Asked
pub mod Cuts
pub mod Dealing
pub mod Ranges
