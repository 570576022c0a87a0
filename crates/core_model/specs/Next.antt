-- What a worker that has a task does next: the act, the event that it is, and the task that it leaves.
use Rattle.core_model.specs.Events.{Does, EventKind, Needs, a_finish, a_keep, a_post, a_start, an_arrive, an_end, an_open, kind_of, task_after}
use Rattle.core_model.specs.Operations.{leaf_of, value_under}
use Rattle.core_model.specs.State.{CoreJob, State}
use Rattle.core_model.specs.Words.{Entry, Event, ArriveFirst, ArriveSecond, End, FinishLeaf, FinishPar, FinishSeq, Keep, OpenParLeft, OpenParRight, OpenSeqLeft, OpenSeqRight, Post, Start, CallState, Got, NotCalled, Out, Task, Ended, Half, Handed, Idle, Kept, Run, Started, Whole, Act, Call, Work, Nodes, Kind, LeafNode, ParNode, SeqNode, Move, Arrive, FinishParent, OpenSecond, Root}
use Rattle.core_model.specs.declared.next.Next.{Next}
use Rattle.core_model.specs.declared.next.Next.TheVariants as acts
use Rattle.seq_objects.specs.Objects.{value_of}
use Rattle.std.specs.Prelude.{List, None, Option, Some, if◌then◌else◌, unwrap_or, ℕ, ◌==◌, ◌≡◌}

-- the act at a series block, from its two sides; a node of another kind has none
abbrev pub in_series : Option Kind → (ℕ → ℕ → Next) → Option Next
in_series None act = None
in_series (Some (LeafNode leaf)) act = None
in_series (Some (SeqNode left right)) act = Some (act left right)
in_series (Some (ParNode left right)) act = None

-- the same at a parallel block
abbrev pub in_parallel : Option Kind → (ℕ → ℕ → Next) → Option Next
in_parallel None act = None
in_parallel (Some (LeafNode leaf)) act = None
in_parallel (Some (SeqNode left right)) act = None
in_parallel (Some (ParNode left right)) act = Some (act left right)

-- node `n` is claimed: a leaf starts, and a block opens a side, the right one first if it is parallel
abbrev pub act_of_run : Option Kind → ℕ → Option Next
act_of_run None n = None
act_of_run (Some (LeafNode leaf)) n = Some (acts.Start n leaf)
act_of_run (Some (SeqNode left right)) n = Some (acts.Open left Idle (OpenSeqLeft n left right))
act_of_run (Some (ParNode left right)) n = Some (acts.Open right (Half n) (OpenParRight n left right))

-- the right side of parallel block `p` is open, so the left one opens
abbrev pub act_of_half : Option Kind → ℕ → Option Next
act_of_half kind p = in_parallel kind (λ left right. acts.Open left Idle (OpenParLeft p left right))

-- node `n`, a leaf with this act, has started: work has its value at once, a call once it is answered
abbrev pub act_of_started : Act → CallState → ℕ → ℕ → ℕ → Option Next
act_of_started (Work steps) call n start leaf = Some (acts.Spin n start leaf steps)
act_of_started (Call op) NotCalled n start leaf = Some (acts.Call n start leaf op)
act_of_started (Call op) Out n start leaf = None
act_of_started (Call op) (Got receipt) n start leaf = Some (acts.Got n start receipt.reply)

-- the left side of series `p` is done, so the right one opens
abbrev pub act_of_second : Option Kind → ℕ → Option Next
act_of_second kind p = in_series kind (λ left right. acts.Open right Idle (OpenSeqRight p left right))

-- the right side of series `p` is done, so the series is
abbrev pub act_of_parent : Option Kind → ℕ → Option Next
act_of_parent kind p = in_series kind (λ left right. acts.Finish p (FinishSeq p left right))

-- side `n` of parallel block `p` is done, so it arrives at the block
abbrev pub act_of_arrive : Option Kind → ℕ → ℕ → Option Next
act_of_arrive kind p n = in_parallel kind (λ left right. acts.Arrive p left right n)

-- both sides of parallel block `p` have arrived, so the block is done
abbrev pub act_of_handed : Option Kind → ℕ → Option Next
act_of_handed kind p = in_parallel kind (λ left right. acts.Finish p (FinishPar p left right))

-- node `n` is done; the plan's move after it decides
abbrev pub act_of_whole : Nodes → Move → ℕ → Option Next
act_of_whole plan Root n = None
act_of_whole plan (OpenSecond p) n = act_of_second (plan.kind p) p
act_of_whole plan (FinishParent p) n = act_of_parent (plan.kind p) p
act_of_whole plan (Arrive p) n = act_of_arrive (plan.kind p) p n

-- the next act of a worker with this task and this call state, by the plan and the acts of the leaves
abbrev pub next_of : Nodes → (ℕ → Act) → Task → CallState → Option Next
next_of plan act Idle call = None
next_of plan act (Run n) call = act_of_run (plan.kind n) n
next_of plan act (Half p) call = act_of_half (plan.kind p) p
next_of plan act (Started n start) call =
    act_of_started (act (leaf_of (plan.kind n))) call n start (leaf_of (plan.kind n))
next_of plan act (Kept n start) call = Some (acts.End n start)
next_of plan act (Ended n start end) call = Some (acts.Finish n (FinishLeaf n start end))
next_of plan act (Whole n) call = act_of_whole plan (plan.after n) n
next_of plan act (Handed p) call = act_of_handed (plan.kind p) p

-- the same of a job
abbrev pub next_act : CoreJob → Task → CallState → Option Next
next_act job task call = next_of job.plan job.act task call

-- the value of the leaf of work at a node under a book; 0 where it has none yet
abbrev pub worked : CoreJob → List (List Entry) → ℕ → ℕ
worked job book n = unwrap_or (value_under job book (leaf_of (job.plan.kind n))) 0

-- the event that the act is, where the leaf of work at a node has the value `worked`, from the number of sides that
-- have arrived at each parallel block
abbrev pub event_of : (ℕ → ℕ) → (ℕ → ℕ) → Next → Event
event_of worked mark (acts.Start n leaf) = Start n
event_of worked mark (acts.Open n task event) = event
event_of worked mark (acts.Spin n start leaf steps) = Keep n start (worked n)
event_of worked mark (acts.Call n start leaf op) = Post n start
event_of worked mark (acts.Got n start reply) = Keep n start (value_of reply)
event_of worked mark (acts.End n start) = End n start
event_of worked mark (acts.Finish n event) = event
event_of worked mark (acts.Arrive p left right n) = if mark p == 0 then ArriveFirst p left right n else ArriveSecond p left right n

-- the event that the act is in a state of a job
abbrev pub event_in : CoreJob → State → Next → Event
event_in job s act = event_of (worked job s.book) s.mark act

-- the kind of that event
abbrev pub kind_of_act : Next → EventKind
kind_of_act (acts.Start n leaf) = a_start
kind_of_act (acts.Open n task event) = an_open
kind_of_act (acts.Spin n start leaf steps) = a_keep
kind_of_act (acts.Call n start leaf op) = a_post
kind_of_act (acts.Got n start reply) = a_keep
kind_of_act (acts.End n start) = an_end
kind_of_act (acts.Finish n event) = a_finish
kind_of_act (acts.Arrive p left right n) = an_arrive

-- the task that the act leaves, from the next tick and the number of sides that have arrived at each parallel block
abbrev pub task_left : ℕ → (ℕ → ℕ) → Next → Task
task_left tick mark (acts.Start n leaf) = Started n tick
task_left tick mark (acts.Open n task event) = task
task_left tick mark (acts.Spin n start leaf steps) = Kept n start
task_left tick mark (acts.Call n start leaf op) = Started n start
task_left tick mark (acts.Got n start reply) = Kept n start
task_left tick mark (acts.End n start) = Ended n start tick
task_left tick mark (acts.Finish n event) = task_after n
task_left tick mark (acts.Arrive p left right n) = if mark p == 0 then Idle else Handed p

-- The act is an event of worker `w` in state `s`.
pub record IsNextEvent (job : CoreJob) (s : State) (w : ℕ) (act : Next) : Type 0 where
  -- the needs of the event are met
  pub needs : Needs job s w (event_in job s act)
  -- the event is of the act's kind
  pub kind : kind_of (event_in job s act) ≡ kind_of_act act
  -- the event leaves the worker the act's task
  pub leaves : (new : State) → Does job s w (event_in job s act) new → new.task w ≡ task_left s.tick s.mark act
