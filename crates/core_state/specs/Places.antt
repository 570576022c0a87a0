-- Lists as total functions of an index, re-exported for the crates of the core.
pub use Rattle.ready_lists.specs.Places.{at}
