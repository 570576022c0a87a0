pub mod Taken
pub mod Books
pub mod Fits
pub mod Serving
pub mod Room
pub mod Passes
