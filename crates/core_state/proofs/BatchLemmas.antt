pub mod Passed
pub mod SameCalls
pub mod Serving
pub mod Publishing
pub mod Due
