-- The shared objects after serving entries.
pub use Rattle.batch_history.specs.Serving.{served}
