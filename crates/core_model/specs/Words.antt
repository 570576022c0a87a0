-- The types in which the rules are written, re-exported from their declarations: nodes, plans, tasks, statuses, calls
-- and events.
pub use Rattle.seq_objects.specs.declared.act.Act.{Act}
pub use Rattle.seq_objects.specs.declared.act.Act.TheVariants.{Work, Call}
pub use Rattle.seq_objects.specs.declared.op.Op.{Op}
pub use Rattle.sp_order.specs.declared.node.Kind.{Kind}
pub use Rattle.sp_order.specs.declared.node.Kind.TheVariants.{LeafNode, SeqNode, ParNode}
pub use Rattle.sp_order.specs.declared.node.Move.{Move}
pub use Rattle.sp_order.specs.declared.node.Move.TheVariants.{Root, OpenSecond, FinishParent, Arrive}
pub use Rattle.sp_order.specs.Precedence.{Tree, leaf, seq, par, leaves}
pub use Rattle.sp_order.specs.Plans.{Nodes, IsPlan, IsSide, IsUnder, IsBySeries, HasSide, parent_of}
pub use Rattle.sp_order.specs.PlanOf.{node_count, OccursAt, IsPlanOf}
pub use Rattle.batch_history.specs.declared.batch.Entry.{Entry}
pub use Rattle.core_model.specs.declared.progress.Progress.{Progress}
pub use Rattle.core_model.specs.declared.progress.Progress.TheVariants.{Waiting, Ready, Taken, Done, Ran}
pub use Rattle.core_model.specs.declared.task.Task.{Task}
pub use Rattle.core_model.specs.declared.task.Task.TheVariants.{Idle, Run, Half, Started, Kept, Ended, Whole, Handed}
pub use Rattle.core_model.specs.declared.status.Status.{Status}
pub use Rattle.core_model.specs.declared.status.Status.TheVariants.{Free, Pending, Executing, Served}
pub use Rattle.core_model.specs.declared.status.CallState.{CallState}
pub use Rattle.core_model.specs.declared.status.CallState.TheVariants.{NotCalled, Out, Got}
pub use Rattle.core_model.specs.declared.status.Receipt.{Receipt}
pub use Rattle.core_model.specs.declared.event.Event.{Event}
pub use Rattle.core_model.specs.declared.event.Event.TheVariants.{Claim, Start, OpenParRight, OpenParLeft, OpenSeqLeft, OpenSeqRight, Post, Win, Take, Publish, Answer, Release, Leave, Keep, End, FinishLeaf, FinishSeq, FinishPar, ArriveFirst, ArriveSecond}
