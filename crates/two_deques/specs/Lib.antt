-- The specification of the deques: their invariant, what contracts see of hands and deques, the pairs
-- that deques are joined from, and the choice of victims. `Code` is internal to the crate's code and proofs.
pub mod Rule
pub mod Reaches
pub mod Ends
pub mod Hands
pub mod Pairs
pub mod Tries
pub mod Code
