-- Raw reports and their texts, with the specifications that they use of `batch_history`, `job_names`, `sp_order` and
-- `seq_objects`. `Code` is cited by code and proofs only.
pub use Rattle.batch_history.specs.Text
pub use Rattle.batch_history.specs.Book
pub use Rattle.job_names.specs.Names
pub use Rattle.sp_order.specs.Jobs
pub use Rattle.seq_objects.specs.Objects
pub use Rattle.seq_objects.specs.Batches
pub mod Raw
pub mod Texts
pub mod Stops
pub mod Code
