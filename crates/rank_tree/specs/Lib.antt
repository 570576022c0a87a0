-- Cuts of a tree at a key.
pub mod Cuts
