-- Definitions about representations, used only by the code and its proofs.
pub mod Kept
pub mod Opened
