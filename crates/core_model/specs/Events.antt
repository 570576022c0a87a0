-- The events: what each needs of the state, and what it does to it. These are the rules of the model.
use Rattle.batch_history.specs.Book.{IsBatch, IsLegalFrom}
use Rattle.core_model.specs.Words.{Entry, Event, Answer, ArriveFirst, ArriveSecond, Claim, End, FinishLeaf, FinishPar, FinishSeq, Keep, Leave, OpenParLeft, OpenParRight, OpenSeqLeft, OpenSeqRight, Post, Publish, Release, Start, Take, Win, Done, Ran, Ready, Taken, CallState, Got, NotCalled, Out, Status, Executing, Free, Pending, Served, Task, Ended, Half, Handed, Idle, Kept, Run, Started, Whole, Act, Call, Work, IsSide, LeafNode, ParNode, SeqNode}
use Rattle.core_model.specs.Operations.{IsCall, IsLeaf, IsReceipt, leaf_of, op_of, place_of, value_under}
use Rattle.core_model.specs.Serving.{served}
use Rattle.core_model.specs.State.{CoreJob, Hold, State, put}
use Rattle.seq_objects.specs.Objects.{value_of}
use Rattle.std.specs.List.{AllByRecursion}
use Rattle.std.specs.Prelude.{Bool, Contains, List, None, Option, Some, [], false, if◌then◌else◌, map, true, ℕ, ◌++◌, ◌+◌, ◌<◌, ◌==◌, ◌∷◌, ◌≡◌, ◌≢◌}

-- the fourteen kinds of events
pub data EventKind : Type 0 where
  a_claim : EventKind
  a_start : EventKind
  an_open : EventKind
  a_post : EventKind
  a_win : EventKind
  a_take : EventKind
  a_publish : EventKind
  an_answer : EventKind
  a_release : EventKind
  a_leave : EventKind
  a_keep : EventKind
  an_end : EventKind
  a_finish : EventKind
  an_arrive : EventKind

abbrev pub kind_of : Event → EventKind
kind_of (Claim n) = a_claim
kind_of (Start n) = a_start
kind_of (OpenParRight p l r) = an_open
kind_of (OpenParLeft p l r) = an_open
kind_of (OpenSeqLeft p l r) = an_open
kind_of (OpenSeqRight p l r) = an_open
kind_of (Post n s) = a_post
kind_of Win = a_win
kind_of (Take u) = a_take
kind_of Publish = a_publish
kind_of (Answer u r) = an_answer
kind_of Release = a_release
kind_of (Leave r) = a_leave
kind_of (Keep n s v) = a_keep
kind_of (End n s) = an_end
kind_of (FinishLeaf n s e) = a_finish
kind_of (FinishSeq p l r) = a_finish
kind_of (FinishPar p l r) = a_finish
kind_of (ArriveFirst p l r n) = an_arrive
kind_of (ArriveSecond p l r n) = an_arrive

-- the value of a leaf with this act: `worked` where it works, and that of its receipt, once it has one, where it calls
abbrev pub value_in : Act → Option ℕ → CallState → Option ℕ
value_in (Work steps) worked call = worked
value_in (Call op) worked NotCalled = None
value_in (Call op) worked Out = None
value_in (Call op) worked (Got receipt) = Some (value_of receipt.reply)

-- worker `w` owns the flag, with hold `h`
abbrev pub Holds : State → ℕ → Hold → Type 0
Holds s w h = (s.hold ≡ Some h) × (h.worker ≡ w)

-- worker `w` has started the leaf at node `n`
abbrev pub HasStarted : CoreJob → State → ℕ → ℕ → ℕ → Type 0
HasStarted job s w n leaf = (job.plan.kind n ≡ Some (LeafNode leaf)) × (start : ℕ) × (s.task w ≡ Started n start)

-- What each event of worker `w` needs of the state.
abbrev pub Needs : CoreJob → State → ℕ → Event → Type 0
Needs job s w (Claim n) = (s.status w ≡ Free) × (s.task w ≡ Idle) × (s.node n ≡ Ready)
Needs job s w (Start n) = (s.status w ≡ Free) × (s.task w ≡ Run n) × IsLeaf (job.plan.kind n)
Needs job s w (OpenParRight p l r) = (s.status w ≡ Free) × (s.task w ≡ Run p) × (job.plan.kind p ≡ Some (ParNode l r))
Needs job s w (OpenParLeft p l r) = (s.status w ≡ Free) × (s.task w ≡ Half p) × (job.plan.kind p ≡ Some (ParNode l r))
Needs job s w (OpenSeqLeft p l r) = (s.status w ≡ Free) × (s.task w ≡ Run p) × (job.plan.kind p ≡ Some (SeqNode l r))
Needs job s w (OpenSeqRight p l r) = (s.status w ≡ Free) × (s.task w ≡ Whole l) × (job.plan.kind p ≡ Some (SeqNode l r))
Needs job s w (Post n t) =
    (s.status w ≡ Free) × (s.task w ≡ Started n t) × IsCall job (leaf_of (job.plan.kind n)) × (s.call w ≡ NotCalled)
Needs job s w Win = (s.status w ≢ Free) × (s.call w ≡ Out) × (s.hold ≡ None)
Needs job s w (Take u) = (h : Hold) × Holds s w h × (u ≡ h.looks) × (u < job.workers)
Needs job s w Publish =
    (h : Hold) × Holds s w h × (h.looks ≡ job.workers) × ((u : ℕ) × (h.taken u ≡ true)) × (h.published ≡ false)
Needs job s w (Answer u receipt) =
    (h : Hold) × Holds s w h × (h.published ≡ true) × (h.taken u ≡ true) × (h.answered u ≡ false)
    × ((n : ℕ) × (leaf : ℕ) × HasStarted job s u n leaf × IsReceipt (place_of s.book leaf) receipt)
Needs job s w Release =
    (h : Hold) × Holds s w h × (h.looks ≡ job.workers) × ((u : ℕ) → h.taken u ≡ true → h.answered u ≡ true)
Needs job s w (Leave receipt) = (s.status w ≡ Served receipt) × ((h : Hold) → s.hold ≡ Some h → h.worker ≢ w)
Needs job s w (Keep n t v) =
    (s.status w ≡ Free) × (s.task w ≡ Started n t)
    × (value_in (job.act (leaf_of (job.plan.kind n))) (value_under job s.book (leaf_of (job.plan.kind n))) (s.call w) ≡ Some v)
Needs job s w (End n t) = (s.status w ≡ Free) × (s.task w ≡ Kept n t)
Needs job s w (FinishLeaf n t e) = (s.status w ≡ Free) × (s.task w ≡ Ended n t e)
Needs job s w (FinishSeq p l r) = (s.status w ≡ Free) × (s.task w ≡ Whole r) × (job.plan.kind p ≡ Some (SeqNode l r))
Needs job s w (FinishPar p l r) = (s.status w ≡ Free) × (s.task w ≡ Handed p) × (job.plan.kind p ≡ Some (ParNode l r))
Needs job s w (ArriveFirst p l r n) =
    (s.status w ≡ Free) × (s.task w ≡ Whole n) × (job.plan.kind p ≡ Some (ParNode l r))
    × IsSide job.plan p n × (s.mark p ≡ 0)
Needs job s w (ArriveSecond p l r n) =
    (s.status w ≡ Free) × (s.task w ≡ Whole n) × (job.plan.kind p ≡ Some (ParNode l r))
    × IsSide job.plan p n × (s.mark p ≡ 1)

-- the task after node `n` is done: `Idle` after the root, which is node 0
abbrev pub task_after : ℕ → Task
task_after n = if n == 0 then Idle else Whole n

abbrev pub is_pending : Status → Bool
is_pending Free = false
is_pending Pending = true
is_pending Executing = false
is_pending (Served receipt) = false

-- the hold of a worker that has just won the flag
abbrev pub new_hold : ℕ → Hold
new_hold w = record { worker = w; looks = 0; taken = λ u. false; answered = λ u. false; published = false }

-- the hold after a look at worker `u`, whose call is taken if `takes`
abbrev pub looked : Option Hold → Bool → ℕ → Option Hold
looked None takes u = None
looked (Some h) takes u = Some (record h { looks = h.looks + 1; taken = if takes then put h.taken u true else h.taken })

abbrev pub published : Option Hold → Option Hold
published None = None
published (Some h) = Some (record h { published = true })

abbrev pub answered : Option Hold → ℕ → Option Hold
answered None u = None
answered (Some h) u = Some (record h { answered = put h.answered u true })

-- the hold, if there is one, has taken the worker's call
abbrev pub has_taken : Option Hold → ℕ → Bool
has_taken None w = false
has_taken (Some h) w = h.taken w

-- the entry is for the call of a worker whose call is taken
pub record IsTakenCall (job : CoreJob) (s : State) (entry : Entry) : Type 0 where
  pub taken : has_taken s.hold entry.worker ≡ true
  pub node : ℕ
  pub started : HasStarted job s entry.worker node entry.leaf
  pub operation : op_of job s.book entry.leaf ≡ Some entry.op

-- the batch has the taken calls, each exactly once, in batch order, with the serial replies
pub record IsBatchOf (job : CoreJob) (s : State) (batch : List Entry) : Type 0 where
  pub is_batch : IsBatch batch
  pub only : AllByRecursion (IsTakenCall job s) batch
  pub each : (w : ℕ) → has_taken s.hold w ≡ true → Contains (map (λ entry. entry.worker) batch) w
  pub replies : IsLegalFrom s.objects batch

-- The state after each event of worker `w`, except a publish: its result depends on the batch and is defined by `Does`.
abbrev pub made : State → ℕ → Event → State
made s w (Claim n) = record s { node = put s.node n Taken; task = put s.task w (Run n) }
made s w (Start n) = record s { tick = s.tick + 1; task = put s.task w (Started n s.tick) }
made s w (OpenParRight p l r) = record s { node = put s.node r Ready; task = put s.task w (Half p) }
made s w (OpenParLeft p l r) = record s { node = put s.node l Ready; task = put s.task w Idle }
made s w (OpenSeqLeft p l r) = record s { node = put s.node l Ready; task = put s.task w Idle }
made s w (OpenSeqRight p l r) = record s { node = put s.node r Ready; task = put s.task w Idle }
made s w (Post n t) = record s { status = put s.status w Pending; call = put s.call w Out }
made s w Win = record s { hold = Some (new_hold w) }
made s w (Take u) =
    record s {
      status = if is_pending (s.status u) then put s.status u Executing else s.status;
      hold = looked s.hold (is_pending (s.status u)) u;
    }
made s w Publish = s
made s w (Answer u receipt) = record s { status = put s.status u (Served receipt); hold = answered s.hold u }
made s w Release = record s { hold = None }
made s w (Leave receipt) = record s { status = put s.status w Free; call = put s.call w (Got receipt) }
made s w (Keep n t v) =
    record s { value = put s.value n (Some v); call = put s.call w NotCalled; task = put s.task w (Kept n t) }
made s w (End n t) = record s { tick = s.tick + 1; task = put s.task w (Ended n t s.tick) }
made s w (FinishLeaf n t e) = record s { node = put s.node n (Ran w t e); task = put s.task w (task_after n) }
made s w (FinishSeq p l r) = record s { node = put s.node p Done; task = put s.task w (task_after p) }
made s w (FinishPar p l r) = record s { node = put s.node p Done; task = put s.task w (task_after p) }
made s w (ArriveFirst p l r n) = record s { mark = put s.mark p 1; task = put s.task w Idle }
made s w (ArriveSecond p l r n) = record s { mark = put s.mark p 2; task = put s.task w (Handed p) }

-- `new` results from the event. A publish serves the taken calls as one batch, which is appended to the book.
abbrev pub Does : CoreJob → State → ℕ → Event → State → Type 0
Does job s w Publish new =
    (batch : List Entry) × IsBatchOf job s batch
    × (new ≡ record s { book = s.book ++ batch ∷ []; objects = served s.objects batch; hold = published s.hold })
Does job s w event new = new ≡ made s w event

-- an event of `worker`, with its needs met, takes `old` to `new`
pub record Happens (job : CoreJob) (old : State) (worker : ℕ) (event : Event) (new : State) : Type 0 where
  pub worker_in : worker < job.workers
  pub needs : Needs job old worker event
  pub does : Does job old worker event new

-- some event of this kind takes `old` to `new`
pub record IsEvent (job : CoreJob) (old : State) (worker : ℕ) (kind : EventKind) (new : State) : Type 0 where
  pub event : Event
  pub is : kind_of event ≡ kind
  pub happens : Happens job old worker event new
