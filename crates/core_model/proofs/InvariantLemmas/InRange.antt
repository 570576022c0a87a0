-- The nodes that tasks, lists and events name are nodes of the plan, and the workers are among those that there are.
use Rattle.std.proofs.Common.{ℕ, ◌≡◌, ◌≢◌, ◌<◌, true, Some, List, arith, ap}
use Rattle.core_model.proofs.Words.{Kind, SeqNode, ParNode, Nodes, IsPlan, IsSide, parent_of, Progress, Waiting, Task, Event, Claim, Start, OpenParRight, OpenParLeft, OpenSeqLeft, OpenSeqRight, Post, Take, Answer, Keep, End, FinishLeaf, FinishSeq, FinishPar, ArriveFirst, ArriveSecond, CoreJob, Hold, State, names}
use Rattle.core_model.specs.Lists.{times}
use Rattle.core_model.specs.Invariant.ReadyLists.{ReadyListsInvariant}
use Rattle.core_model.specs.Invariant.Tasks.{TaskFits}
use Rattle.core_model.specs.Events.{Needs}
use Rattle.core_model.specs.Invariant.Hold.{HoldInvariant}
use Rattle.core_model.proofs.Inductive.Parts.{InductiveParts}
use Rattle.core_model.specs.Ranges.{AreNodes, IsInRange}

named_not_waiting : (plan : Nodes) (node : ℕ → Progress) (mark : ℕ → ℕ) (t : Task) (n : ℕ) → TaskFits plan node mark t → names t ≡ Some n → node n ≢ Waiting
named_not_waiting plan node mark t n fits name = grind arith

-- a node of some kind is a node, and so is each side, and each parent of a side
module _ (plan : Nodes) (laws : IsPlan plan) where
  pub kind_in : (n : ℕ) (k : Kind) → plan.kind n ≡ Some k → n < plan.count
  kind_in n k kind = laws.within n (λ none. cc)

  pub side_in : (p n : ℕ) → IsSide plan p n → n < plan.count
  side_in p n side = laws.within n (laws.inside p n side)

  pub parent_in : (p n : ℕ) → IsSide plan p n → p < plan.count
  parent_in p n side = let deeper = laws.deeper p n side in let below = side_in p n side in omega (arith, deeper, below)

  seq_in : (p l r : ℕ) → plan.kind p ≡ Some (SeqNode l r) → AreNodes plan.count p l r
  seq_in p l r kind = (kind_in p (SeqNode l r) kind, side_in p l (ap parent_of (laws.left_of_seq p l r kind)), side_in p r (ap parent_of (laws.right_of_seq p l r kind)))

  par_in : (p l r : ℕ) → plan.kind p ≡ Some (ParNode l r) → AreNodes plan.count p l r
  par_in p l r kind = (kind_in p (ParNode l r) kind, side_in p l (ap parent_of (laws.left_of_par p l r kind)), side_in p r (ap parent_of (laws.right_of_par p l r kind)))

module _ (job : CoreJob) (s : State) (laws : IsPlan job.plan) (h : InductiveParts job s) where
  -- what is not waiting is a node
  pub standing_in : (n : ℕ) → s.node n ≢ Waiting → n < job.plan.count
  standing_in n stands = laws.within n (λ none. stands (h.nodes.outside n none))

  -- what a task names is a node
  pub named_in : (w n : ℕ) → names (s.task w) ≡ Some n → n < job.plan.count
  named_in w n name = standing_in n (named_not_waiting job.plan s.node s.mark (s.task w) n (h.tasks.fits w) name)

  -- and so is what stands in a list
  pub ready_in : (ready : ℕ → List ℕ) → ReadyListsInvariant job.workers s.node ready → (n v : ℕ) → times n (ready v) ≢ 0 → n < job.plan.count
  ready_in ready lists n v stands = let is = lists.only n v stands in standing_in n (λ waits. cc)

  -- and so is each whose call is taken
  pub taken_in : (hd : Hold) → s.hold ≡ Some hd → (u : ℕ) → hd.taken u ≡ true → u < job.workers
  taken_in hd held u took =
      let stands : HoldInvariant job.workers s.status s.call (Some hd) = rw held at h.hold in
      let looked = stands.2 u took in let looks = stands.1 in omega (arith, looked, looks)

  pub event_in : (w : ℕ) (event : Event) → Needs job s w event → IsInRange job.plan.count job.workers event
  event_in w (Claim n) needs = let ready = needs.2 in standing_in n (λ waits. cc)
  event_in w (Start n) needs = named_in w n (ap names needs.1)
  event_in w (OpenParRight p l r) needs = par_in job.plan laws p l r needs.2
  event_in w (OpenParLeft p l r) needs = par_in job.plan laws p l r needs.2
  event_in w (OpenSeqLeft p l r) needs = seq_in job.plan laws p l r needs.2
  event_in w (OpenSeqRight p l r) needs = seq_in job.plan laws p l r needs.2
  event_in w (Post n t) needs = named_in w n (ap names needs.1)
  event_in w (Take u) needs = needs.3
  event_in w (Answer u receipt) needs = taken_in needs.0 needs.1.0 u needs.3
  event_in w (Keep n t v) needs = named_in w n (ap names needs.1)
  event_in w (End n t) needs = named_in w n (ap names needs.1)
  event_in w (FinishLeaf n t e) needs = named_in w n (ap names needs.1)
  event_in w (FinishSeq p l r) needs = seq_in job.plan laws p l r needs.2
  event_in w (FinishPar p l r) needs = par_in job.plan laws p l r needs.2
  event_in w (ArriveFirst p l r n) needs = (par_in job.plan laws p l r needs.2, named_in w n (ap names needs.1))
  event_in w (ArriveSecond p l r n) needs = (par_in job.plan laws p l r needs.2, named_in w n (ap names needs.1))
  event_in w _ needs = tt
