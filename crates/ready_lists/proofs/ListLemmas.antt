pub mod NonEmpty
pub mod Ends
