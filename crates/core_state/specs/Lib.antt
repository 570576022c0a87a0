-- The refinement mapping from stored states to the model, the work that is due, and what a worker is doing. `Code` is
-- cited by code and proofs only.
pub mod Words
pub mod Places
pub mod Holds
pub mod Abstraction
pub mod WorkDue
pub mod Doings
pub mod Code
