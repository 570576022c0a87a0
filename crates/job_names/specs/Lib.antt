-- The names of the job language, and the lets that are shown at a place of a text. `Code` holds what only the code and
-- its proofs cite.
pub mod Names
pub mod Scopes
pub mod Code
