-- What only the code and its proofs cite: which hints belong to which deques.
pub mod Hints
