-- The picture of a report, with the specifications that it uses of `batch_history` and `seq_objects`. `Code` is cited
-- by code and proofs only.
pub use Rattle.batch_history.specs.Book
pub use Rattle.batch_history.specs.Lawful
pub mod Markup
pub mod Elements
pub mod WellFormed
pub mod Names
pub mod Boxes
pub mod Drawing
pub mod Columns
pub mod Picture
pub mod Meaning
pub mod Shown
pub mod Code
