pub mod Looking
pub mod Answering
pub mod Batches
pub mod Launched
