-- The canonical text of a job, and the job that a seed and a size give, with what it takes from `job_lang`. `Code` holds
-- what only the code cites.
pub use Rattle.job_lang.specs.Language
pub mod Canonical
pub mod Generator
pub mod Code
