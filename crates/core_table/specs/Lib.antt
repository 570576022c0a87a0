pub mod Passes
pub mod Calls
pub mod Closing
pub mod Code
