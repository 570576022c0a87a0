-- Definitions used only by the code and its proofs.
pub mod Fronts
