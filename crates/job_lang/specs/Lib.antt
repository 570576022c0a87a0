-- The job language, from the items of a text to its job, with what it takes from `job_syntax`. `Code` holds what only
-- the code cites.
pub use Rattle.job_syntax.specs.Text
pub use Rattle.job_syntax.specs.Words
pub use Rattle.job_syntax.specs.Grammar
pub use Rattle.job_syntax.specs.Arguments
pub use Rattle.job_syntax.specs.Faults
pub use Rattle.job_syntax.specs.ItemsOf
pub mod Counts
pub mod Joins
pub mod Orders
pub mod Objects
pub mod Meaning
pub mod Uses
pub mod Places
pub mod Limits
pub mod Language
pub mod ActNumbers
pub mod Code
