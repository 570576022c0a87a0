-- Decimal numbers in words and in texts. `Code` is internal to the crate's code and proofs.
pub mod Words
pub mod Runs
pub mod Texts
pub mod Code
