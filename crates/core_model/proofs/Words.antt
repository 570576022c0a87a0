-- The types and variants that most proofs use, re-exported from the model, and the records of a job and of its plan.
pub use Rattle.core_model.specs.Words.{Act, Work, Call, Op, Tree, leaf, seq, par, leaves, Entry}
pub use Rattle.core_model.specs.Words.{Kind, LeafNode, SeqNode, ParNode, Move, Root, OpenSecond, FinishParent, Arrive, Nodes, IsPlan, IsSide, IsUnder, IsBySeries, HasSide, parent_of, node_count, OccursAt, IsPlanOf}
pub use Rattle.core_model.specs.Words.{Progress, Waiting, Ready, Taken, Done, Ran, Task, Idle, Run, Half, Started, Kept, Ended, Whole, Handed}
pub use Rattle.core_model.specs.Words.{Status, Free, Pending, Executing, Served, CallState, NotCalled, Out, Got, Receipt}
pub use Rattle.core_model.specs.Words.{Event, Claim, Start, OpenParRight, OpenParLeft, OpenSeqLeft, OpenSeqRight, Post, Win, Take, Publish, Answer, Release, Leave, Keep, End, FinishLeaf, FinishSeq, FinishPar, ArriveFirst, ArriveSecond}
pub use Rattle.core_model.specs.State.{CoreJob, Hold, State, CoreState, core_job, core_job_with, put}
pub use Rattle.core_model.specs.Tasks.{is_done, names}
