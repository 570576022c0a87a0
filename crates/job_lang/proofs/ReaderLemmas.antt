pub mod Answering
pub mod ReadingFaults
pub mod Spelled
