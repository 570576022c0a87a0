-- The shares of a report's workers, with the specifications that it uses of `batch_history`. `Code` is cited by code and
-- proofs only.
pub use Rattle.batch_history.specs.Book
pub use Rattle.batch_history.specs.Lawful
pub mod Shares
pub mod Meaning
pub mod Code
