-- Reports of their parts. `Code` is cited by code and proofs only.
pub mod Parts
pub mod Code
