-- What the next act of a task says of the task, by the kind of act.
use Rattle.std.proofs.Common.{ℕ, ◌≡◌, ◌<◌, true, Option as Maybe, None, Some, refl, sym, ap, ◌∙◌, subst, inl, inr, ◌⊎◌}
use Rattle.std.proofs.lemmas.Bool.{cases_eq}
use Rattle.seq_objects.specs.Objects.{value_of}
use Rattle.seq_objects.specs.declared.act.Act.{Act}
use Rattle.seq_objects.specs.declared.op.Op.{Op}
use Rattle.seq_objects.specs.declared.act.Act.TheVariants as kinds
use Rattle.sp_order.specs.declared.node.Kind.{Kind}
use Rattle.sp_order.specs.declared.node.Kind.TheVariants.{LeafNode, SeqNode, ParNode}
use Rattle.sp_order.specs.declared.node.Move.{Move}
use Rattle.sp_order.specs.declared.node.Move.TheVariants as moves
use Rattle.sp_order.specs.Plans.{IsSide, parent_of}
use Rattle.core_model.specs.State.{CoreJob, State, put}
use Rattle.core_model.specs.Tasks.{is_done}
use Rattle.core_model.specs.Operations.{leaf_of, op_in, IsLeaf}
use Rattle.core_model.specs.Events.{Happens, task_after, value_in}
use Rattle.core_model.specs.Next.{next_act, act_of_run, act_of_half, act_of_started, act_of_second, act_of_parent, act_of_arrive, act_of_whole, act_of_handed}
use Rattle.core_model.specs.declared.next.Next.{Next}
use Rattle.core_model.specs.declared.next.Next.TheVariants as acts
use Rattle.table_rule.specs.CoreWords.{Task, Idle, Run, Half, Started, Kept, Ended, Whole, Handed, Ready, Free, CallState, NotCalled, Out, Got, Event}
use Rattle.table_rule.specs.declared.slot.OpRecord.{OpRecord}
use Rattle.table_rule.specs.declared.view.View.{View}
use Rattle.table_rule.specs.Laws.{Laws}
use Rattle.table_rule.specs.DueActs.{number_told, op_told, IsPostDue, IsKeepDueWith}
use Rattle.table_rule.specs.Tasks.{IsPar, TaskHere, progress_after, job_seen_with, IsNext}
use Rattle.table_rule.proofs.StepLemmas.Sides.{block_in, side_below}
use Rattle.core_model.proofs.InvariantLemmas.Finish.{idle_after, whole_after}

-- In every state where a free worker has the task, the event happens, and `changed` is the state after it.
abbrev pub HappensFor : CoreJob → Task → Event → (State → ℕ → State) → Type 0
HappensFor job task event changed = (s : State) (k : ℕ) → k < job.workers → s.status k ≡ Free → s.task k ≡ task → Happens job s k event (changed s k)

-- n, a side of a block, is made ready, and y is the task left
pub record Opens (job : CoreJob) (task : Task) (n : ℕ) (y : Task) (event : Event) : Type 0 where
  pub parent : ℕ
  pub side : IsSide job.plan parent n
  pub below : n < job.plan.count
  pub here : TaskHere job.plan y
  pub happens : HappensFor job task event (λ s k. record s { node = put s.node n Ready; task = put s.task k y })

-- n is marked as done
pub record Finishes (job : CoreJob) (task : Task) (n : ℕ) (event : Event) : Type 0 where
  pub below : n < job.plan.count
  pub done : (k : ℕ) → is_done (progress_after k task) ≡ true
  pub happens : HappensFor job task event (λ s k. record s { node = put s.node n (progress_after k task); task = put s.task k (task_after n) })

module _ (job : CoreJob) (task : Task) (call : CallState) where
  -- what the act says of the task
  abbrev pub ActStands : Maybe Next → Type 0
  ActStands None = Unit {0}
  ActStands (Some (acts.Start n leaf)) = (task ≡ Run n) × IsLeaf (job.plan.kind n)
  ActStands (Some (acts.Open n y event)) = Opens job task n y event
  ActStands (Some (acts.Spin n start leaf steps)) = (task ≡ Started n start) × (job.plan.kind n ≡ Some (LeafNode leaf)) × (job.act leaf ≡ kinds.Work steps)
  ActStands (Some (acts.Call n start leaf op)) = (task ≡ Started n start) × (call ≡ NotCalled) × (job.plan.kind n ≡ Some (LeafNode leaf)) × (op_in (job.act leaf) ≡ Some op)
  ActStands (Some (acts.Got n start reply)) = (task ≡ Started n start) × ((worked : Maybe ℕ) → value_in (job.act (leaf_of (job.plan.kind n))) worked call ≡ Some (value_of reply))
  ActStands (Some (acts.End n start)) = task ≡ Kept n start
  ActStands (Some (acts.Finish n event)) = Finishes job task n event
  ActStands (Some (acts.Arrive p l r n)) = (task ≡ Whole n) × (job.plan.kind p ≡ Some (ParNode l r)) × IsSide job.plan p n

-- The task is `Started` at the call's leaf, and the operation is that of the leaf's act with what was told of its
-- source.
abbrev pub MayPost : CoreJob → Maybe ℕ → Task → OpRecord → Type 0
MayPost job told task call =
    (n : ℕ) × (start : ℕ) × (task ≡ Started n start) × (job.plan.kind n ≡ Some (LeafNode call.leaf))
    × ((op : Op) × (op_in (job.act call.leaf) ≡ Some op) × (op_told op (job.source call.leaf) told ≡ Some call.op))

-- the leaf at node `n` works, on a number that is by what was told of its source, and this is what it computes
pub record WorksOn (job : CoreJob) (told : Maybe ℕ) (n value : ℕ) : Type 0 where
  pub leaf : ℕ
  pub steps : ℕ
  pub number : ℕ
  pub kind : job.plan.kind n ≡ Some (LeafNode leaf)
  pub act : job.act leaf ≡ kinds.Work steps
  pub by_told : number_told steps (job.source leaf) told ≡ Some number
  pub is : value ≡ job.work number

-- the value of the leaf at node `n` is this: that of its reply, or of its work
abbrev pub KeepsAt : CoreJob → Maybe ℕ → CallState → ℕ → ℕ → Type 0
KeepsAt job told call n value =
    ((worked : Maybe ℕ) → value_in (job.act (leaf_of (job.plan.kind n))) worked call ≡ Some value) ⊎ WorksOn job told n value

-- the leaf has started, and its value is this
abbrev pub MayKeep : CoreJob → Maybe ℕ → Task → CallState → ℕ → Type 0
MayKeep job told task call value = (n : ℕ) × (start : ℕ) × (task ≡ Started n start) × KeepsAt job told call n value

pub keeps_at : (job : CoreJob) (told : Maybe ℕ) (task : Task) (call : CallState) (value n start : ℕ) → MayKeep job told task call value → task ≡ Started n start → KeepsAt job told call n value
keeps_at job told task call value n start may at =
    let both : Started may.0 may.1 ≡ Started n start = sym may.2 ∙ at in
    let same : may.0 ≡ n = cc in
    subst (λ (y : ℕ). KeepsAt job told call y value) same may.3

module _ (job : CoreJob) (task : Task) (call : CallState) where
  -- what a post or a keep that is due says of the task
  post_by : (told : Maybe ℕ) (o : Maybe Next) (posted : OpRecord) → IsPostDue job.source told o posted → ActStands job task call o → (call ≡ NotCalled) × MayPost job told task posted
  post_by told (Some (acts.Call n start leaf op)) posted is stands = (
    stands.1,
    (n, start, stands.0, stands.2 ∙ ap (λ (u : ℕ). Some (LeafNode u)) (sym is.0), (op, ap (λ (u : ℕ). op_in (job.act u)) is.0 ∙ stands.3, subst (λ (u : ℕ). op_told op (job.source u) told ≡ Some posted.op) (sym is.0) is.1)),
  )
  post_by told None posted is stands = absurd is
  post_by told _ posted is stands = absurd is

  keep_by : (told : Maybe ℕ) (o : Maybe Next) (value : ℕ) → IsKeepDueWith job.work job.source told o value → ActStands job task call o → MayKeep job told task call value
  keep_by told (Some (acts.Spin n start leaf steps)) value is stands =
      (n, start, stands.0, inr (record { leaf = leaf; steps = steps; number = is.0; kind = stands.1; act = stands.2; by_told = is.1; is = is.2 }))
  keep_by told (Some (acts.Got n start reply)) value is stands = (n, start, stands.0, inl (λ worked. stands.1 worked ∙ ap Some (sym is)))
  keep_by told _ value is stands = absurd is

module _ (job : CoreJob) (laws : Laws job) (call : CallState) where
  run_stands : (n : ℕ) (kind : Maybe Kind) → job.plan.kind n ≡ kind → ActStands job (Run n) call (act_of_run kind n)
  run_stands n None is = tt
  run_stands n (Some (LeafNode leaf)) is = (refl, (leaf, is))
  run_stands n (Some (SeqNode l r)) is = record {
    parent = n;
    side = ap parent_of (laws.plan.left_of_seq n l r is);
    below = side_below job.plan n l laws.plan (ap parent_of (laws.plan.left_of_seq n l r is));
    here = tt;
    happens = λ s k low free task. record { worker_in = low; needs = (free, task, is); does = refl };
  }
  run_stands n (Some (ParNode l r)) is = record {
    parent = n;
    side = ap parent_of (laws.plan.right_of_par n l r is);
    below = side_below job.plan n r laws.plan (ap parent_of (laws.plan.right_of_par n l r is));
    here = (block_in job.plan n (ParNode l r) laws.plan is, subst IsPar (sym is) tt);
    happens = λ s k low free task. record { worker_in = low; needs = (free, task, is); does = refl };
  }

  half_stands : (p : ℕ) (kind : Maybe Kind) → job.plan.kind p ≡ kind → ActStands job (Half p) call (act_of_half kind p)
  half_stands p (Some (ParNode l r)) is = record {
    parent = p;
    side = ap parent_of (laws.plan.left_of_par p l r is);
    below = side_below job.plan p l laws.plan (ap parent_of (laws.plan.left_of_par p l r is));
    here = tt;
    happens = λ s k low free task. record { worker_in = low; needs = (free, task, is); does = refl };
  }
  half_stands p _ is = tt

  started_stands : (n start leaf : ℕ) (act : Act) → job.plan.kind n ≡ Some (LeafNode leaf) → job.act leaf ≡ act
      → ActStands job (Started n start) call (act_of_started act call n start leaf)
  started_stands n start leaf (kinds.Work steps) kind is = (refl, kind, is)
  started_stands n start leaf (kinds.Call op) kind is = elim call as (λ (c : CallState). ActStands job (Started n start) c (act_of_started (kinds.Call op) c n start leaf)) [
    | NotCalled ↦ (refl, refl, kind, ap op_in is)
    | Out ↦ tt
    | Got receipt ↦ (refl, λ worked. ap (λ u. value_in (job.act (leaf_of u)) worked (Got receipt)) kind ∙ ap (λ a. value_in a worked (Got receipt)) is)
  ]

  second_stands : (n p r : ℕ) → job.plan.kind p ≡ Some (SeqNode n r) → ActStands job (Whole n) call (act_of_second (job.plan.kind p) p)
  second_stands n p r kind = subst (λ k. ActStands job (Whole n) call (act_of_second k p)) (sym kind) (record {
    parent = p;
    side = ap parent_of (laws.plan.right_of_seq p n r kind);
    below = side_below job.plan p r laws.plan (ap parent_of (laws.plan.right_of_seq p n r kind));
    here = tt;
    happens = λ s k low free task. record { worker_in = low; needs = (free, task, kind); does = refl };
  })

  parent_stands : (n p l : ℕ) → job.plan.kind p ≡ Some (SeqNode l n) → ActStands job (Whole n) call (act_of_parent (job.plan.kind p) p)
  parent_stands n p l kind = subst (λ k. ActStands job (Whole n) call (act_of_parent k p)) (sym kind) (record {
    below = block_in job.plan p (SeqNode l n) laws.plan kind;
    done = λ k. refl;
    happens = λ s k low free task. record { worker_in = low; needs = (free, task, kind); does = refl };
  })

  arrive_stands : (n p l r : ℕ) → job.plan.kind p ≡ Some (ParNode l r) → IsSide job.plan p n → ActStands job (Whole n) call (act_of_arrive (job.plan.kind p) p n)
  arrive_stands n p l r kind side = subst (λ k. ActStands job (Whole n) call (act_of_arrive k p n)) (sym kind) (refl, kind, side)

  whole_stands : (n : ℕ) (move : Move) → job.plan.after n ≡ move → ActStands job (Whole n) call (act_of_whole job.plan move n)
  whole_stands n moves.Root after = tt
  whole_stands n (moves.OpenSecond p) after = let second = laws.second n p after in second_stands n p second.0 second.1
  whole_stands n (moves.FinishParent p) after = let parent = laws.parent n p after in parent_stands n p parent.0 parent.1
  whole_stands n (moves.Arrive p) after = let sides = laws.arrive n p after in arrive_stands n p sides.0 sides.1 sides.2 sides.3

  handed_stands : (p : ℕ) (kind : Maybe Kind) → job.plan.kind p ≡ kind → ActStands job (Handed p) call (act_of_handed kind p)
  handed_stands p (Some (ParNode l r)) is = record {
    below = block_in job.plan p (ParNode l r) laws.plan is;
    done = λ k. refl;
    happens = λ s k low free task. record { worker_in = low; needs = (free, task, is); does = refl };
  }
  handed_stands p _ is = tt

  pub act_stands : (task : Task) → TaskHere job.plan task → ActStands job task call (next_act job task call)
  act_stands Idle here = tt
  act_stands (Run n) here = run_stands n (job.plan.kind n) refl
  act_stands (Half p) here = half_stands p (job.plan.kind p) refl
  act_stands (Started n start) here =
      let kind : job.plan.kind n ≡ Some (LeafNode (leaf_of (job.plan.kind n))) = here.2.1 ∙ ap (λ u. Some (LeafNode u)) (sym (ap leaf_of here.2.1)) in
      started_stands n start (leaf_of (job.plan.kind n)) (job.act (leaf_of (job.plan.kind n))) kind refl
  act_stands (Kept n start) here = refl
  act_stands (Ended n start end) here = record {
    below = here.0;
    done = λ k. refl;
    happens = λ s k low free task. record { worker_in = low; needs = (free, task); does = refl };
  }
  act_stands (Whole n) here = whole_stands n (job.plan.after n) refl
  act_stands (Handed p) here = handed_stands p (job.plan.kind p) refl

  -- what this act, which is the next one, says of the task
  pub next_stands : (task : Task) (next : Next) → TaskHere job.plan task → next_act job task call ≡ Some next → ActStands job task call (Some next)
  next_stands task next here is = subst (ActStands job task call) is (act_stands task here)

  pub may_post : (told : Maybe ℕ) (task : Task) (posted : OpRecord) → TaskHere job.plan task → IsPostDue job.source told (next_act job task call) posted → (call ≡ NotCalled) × MayPost job told task posted
  may_post told task posted here due = post_by job task call told (next_act job task call) posted due (act_stands task here)

  pub may_keep : (told : Maybe ℕ) (task : Task) (value : ℕ) → TaskHere job.plan task → IsKeepDueWith job.work job.source told (next_act job task call) value → MayKeep job told task call value
  may_keep told task value here due = keep_by job task call told (next_act job task call) value due (act_stands task here)

-- the next act by the view is the job's, and the other way round
pub act_is : (job : CoreJob) (v : View) (one two : Next) → job_seen_with job.work v ≡ job → next_act job v.own.task v.own.call ≡ Some two → IsNext v one → one ≡ two
act_is job v one two known due is = let there = subst (λ (j : CoreJob). next_act j v.own.task v.own.call ≡ Some one) known is in cc

pub next_seen : (job : CoreJob) (v : View) (next : Next) → job_seen_with job.work v ≡ job → next_act job v.own.task v.own.call ≡ Some next → IsNext v next
next_seen job v next known is = subst (λ (j : CoreJob). next_act j v.own.task v.own.call ≡ Some next) (sym known) is

pub after_here : (job : CoreJob) (n : ℕ) → n < job.plan.count → TaskHere job.plan (task_after n)
after_here job n below = elim (cases_eq n 0) [
  | inl is ↦ subst (TaskHere job.plan) (sym (idle_after n is)) tt
  | inr other ↦ subst (TaskHere job.plan) (sym (whole_after n other)) (below, other)
]

-- the task after the second arrival
pub handed_here : (job : CoreJob) (laws : Laws job) (p l r : ℕ) → job.plan.kind p ≡ Some (ParNode l r) → TaskHere job.plan (Handed p)
handed_here job laws p l r kind = (block_in job.plan p (ParNode l r) laws.plan kind, subst IsPar (sym kind) tt)
