pub mod Popping
pub mod Serving
