pub mod Counting
pub mod Cutting
pub mod Distinct
pub mod Placing
pub mod Starts
