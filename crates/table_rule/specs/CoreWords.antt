-- The types and variants of `core_model` that the table's rules use, exported again under one name. `core_model` has the
-- same list in its `Words.antt`; but no other crate can name a type that a crate declares through a re-export of its own.
pub use Rattle.core_model.specs.declared.progress.Progress.{Progress}
pub use Rattle.core_model.specs.declared.progress.Progress.TheVariants.{Waiting, Ready, Taken, Done, Ran}
pub use Rattle.core_model.specs.declared.task.Task.{Task}
pub use Rattle.core_model.specs.declared.task.Task.TheVariants.{Idle, Run, Half, Started, Kept, Ended, Whole, Handed}
pub use Rattle.core_model.specs.declared.status.Status.{Status}
pub use Rattle.core_model.specs.declared.status.Status.TheVariants.{Free, Pending, Executing, Served}
pub use Rattle.core_model.specs.declared.status.CallState.{CallState}
pub use Rattle.core_model.specs.declared.status.CallState.TheVariants.{NotCalled, Out, Got}
pub use Rattle.core_model.specs.declared.status.Receipt.{Receipt}
pub use Rattle.core_model.specs.declared.event.Event.{Event}
pub use Rattle.core_model.specs.declared.event.Event.TheVariants.{Claim, Start, OpenParRight, OpenParLeft, OpenSeqLeft, OpenSeqRight, Post, Win, Take, Publish, Answer, Release, Leave, Keep, End, FinishLeaf, FinishSeq, FinishPar, ArriveFirst, ArriveSecond}
