-- Definitions used only by the code and its proofs: which ends belong to which deques during construction.
pub mod Opening
