-- Definitions that only code and proofs cite: no contract of a `pub` item uses them.
pub mod Rows
pub mod Rotations
