-- What only the code and its proofs cite: small numbers, and how the calls of batches stand for operations.
pub mod Numbers
pub mod Fifos
pub mod Maps
