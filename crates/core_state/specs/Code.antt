-- Definitions that only code and proofs cite, here and in the core above: the invariant of a stored state, and what a
-- turn looks up.
pub mod Sizes
pub mod CallEvents
pub mod Lookups
pub mod Representation
