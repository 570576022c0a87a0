-- Where the leaves of a job stand in its text, with what it takes from the crates below. `Code` holds what only the code
-- cites.
pub use Rattle.job_lang.specs.Language
pub use Rattle.job_lang.specs.Places as PlacedLeaves
pub mod Places
pub mod Rows
pub mod Code
