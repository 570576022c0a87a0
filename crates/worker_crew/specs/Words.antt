-- Re-exports of the core's types that the specification of the crew and of its turns uses.
pub use Rattle.core_model.specs.declared.task.Task.{Task}
pub use Rattle.core_model.specs.declared.task.Task.TheVariants.{Idle}
pub use Rattle.core_model.specs.declared.event.Event.{Event}
pub use Rattle.core_model.specs.declared.status.CallState.{CallState}
pub use Rattle.core_model.specs.declared.status.CallState.TheVariants.{NotCalled, Out, Got}
pub use Rattle.core_model.specs.declared.status.Receipt.{Receipt}
