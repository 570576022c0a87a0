-- What only the code and its proofs cite: bundles of pieces, and the outs of bundles.
pub mod Bundles
