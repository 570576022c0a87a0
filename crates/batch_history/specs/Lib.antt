-- Books, lawful reports, their text and their summary, with the specifications they use of `seq_objects` and
-- `sp_order`. `Code` is cited by code and proofs only.
pub use Rattle.seq_objects.specs.Objects
pub use Rattle.seq_objects.specs.Stores
pub use Rattle.seq_objects.specs.BatchOrder
pub use Rattle.seq_objects.specs.Spin
pub use Rattle.seq_objects.specs.Words
pub use Rattle.seq_objects.specs.Pairs
pub use Rattle.sp_order.specs.Precedence
pub use Rattle.sp_order.specs.Sources
pub use Rattle.sp_order.specs.Jobs
pub use Rattle.sp_order.specs.Totals
pub use Rattle.sp_order.specs.Phases
pub mod Book
pub mod Reserved
pub mod Places
pub mod Operations
pub mod Serving
pub mod Lawful
pub mod Text
pub mod Tally
pub mod Summary
pub mod Filling
pub mod Code
