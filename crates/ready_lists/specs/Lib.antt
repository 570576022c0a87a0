-- Lists as functions of places, and where in its list a claimed node stands. `Code` is cited by code and proofs only.
pub mod Places
pub mod Ends
pub mod Code
