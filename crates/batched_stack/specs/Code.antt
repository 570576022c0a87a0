-- Definitions that only the code cites: the invariant, what cutting takes and leaves, and what the end reassembles.
pub mod Begin
pub mod End
pub mod Invariant
