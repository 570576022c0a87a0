-- What the program promises, and the rules below on which that stands. `Code` is what only the code cites.
pub use Rattle.batch_script.specs.Scripts
pub use Rattle.batch_script.specs.Outcomes
pub use Rattle.bulk_calls.specs.Bulk
pub use Rattle.bulk_calls.specs.Batches
pub mod Calls
pub mod Text
pub mod Code
