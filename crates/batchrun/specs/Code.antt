-- What only the code and its proofs cite.
pub mod Commands
pub mod Reading
pub mod Runs
pub mod Writing
