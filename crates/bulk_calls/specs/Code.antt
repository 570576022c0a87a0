-- What only the code and its proofs cite: keys among starts.
pub mod Lookup
