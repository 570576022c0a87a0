-- What shelves and sinks of bytes promise. `Code` is internal to the crate's code and proofs.
pub mod Bytes
pub mod Causes
pub mod Memory
pub mod Code
