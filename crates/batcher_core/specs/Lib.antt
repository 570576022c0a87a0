-- What callers see of a core: its job, state, turns and ends, with the specifications they use of the crates below. The
-- rules are those of `core_model`.
pub use Rattle.sp_order.specs.Precedence
pub use Rattle.sp_order.specs.Plans
pub use Rattle.sp_order.specs.Preorder
pub use Rattle.batch_history.specs.Lawful
pub use Rattle.core_model.specs.State
pub use Rattle.core_model.specs.Events
pub use Rattle.core_model.specs.Invariant
pub use Rattle.core_model.specs.Choice
pub use Rattle.core_model.specs.Runs
pub use Rattle.core_model.specs.Reports
pub use Rattle.core_model.specs.Stopped
pub mod Cores
pub mod Doings
pub mod LiveEnds
