-- What an event on the nodes does to the count of events left.
use Rattle.std.proofs.Common.{ℕ, zero, suc, ◌≡◌, ◌≢◌, ◌<◌, ◌≤◌, ◌+◌, Option, Some, None, arith, refl, inl, inr, ap}
use Rattle.std.proofs.lemmas.Bool.{cases_eq}
use Rattle.std.proofs.lemmas.Bool.Decides.{nat_tests}
use Rattle.core_model.proofs.Words.{Kind, LeafNode, IsPlan, parent_of, Progress, Waiting, Ready, Taken, Done, Ran, Task, Idle, Run, Half, Started, Kept, Ended, Whole, Handed, Free, CallState, Claim, Start, OpenParRight, OpenParLeft, OpenSeqLeft, OpenSeqRight, End, FinishLeaf, FinishSeq, FinishPar, ArriveFirst, ArriveSecond, put, CoreJob, State}
use Rattle.core_model.specs.Invariant.Tasks.{TaskFits}
use Rattle.core_model.specs.Events.{Needs, task_after}
use Rattle.core_model.proofs.Inductive.Parts.{InductiveParts}
use Rattle.core_model.specs.Measure.{total, node_cost, worker_cost, task_cost, run_cost, left_cost, first_cost, leaf_cost, due_cost, free_cost, owns, workers_measure, measure}
use Rattle.core_model.proofs.InvariantLemmas.Puts.{put_at, put_other}

pub total_same : (f g : ℕ → ℕ) (n : ℕ) → ((m : ℕ) → m < n → g m ≡ f m) → total g n ≡ total f n
total_same f g zero h = refl
total_same f g (suc n) h = let a = h n (omega arith) in let b : total g n ≡ total f n = total_same f g n (λ m l. h m (omega arith)) in omega arith

-- the sums of functions that differ at k alone
pub total_change : (f g : ℕ → ℕ) (k n : ℕ) → k < n → ((m : ℕ) → m ≢ k → g m ≡ f m) → total g n + f k ≡ total f n + g k
total_change f g k zero l h = absurd (omega arith)
total_change f g k (suc n) l h = elim (cases_eq n k) [
  | inl e ↦ let b : total g n ≡ total f n = total_same f g n (λ m below. h m (omega arith)) in let c = ap f e in let d = ap g e in omega arith
  | inr other ↦ let b : total g n + f k ≡ total f n + g k = total_change f g k n (omega arith) h in let a = h n other in omega arith
]

-- a node is written
pub node_change : (job : CoreJob) (node : ℕ → Progress) (n : ℕ) (x : Progress) → n < job.plan.count
    → total (λ m. node_cost job (job.plan.kind m) (put node n x m)) job.plan.count + node_cost job (job.plan.kind n) (node n)
    ≡ total (λ m. node_cost job (job.plan.kind m) (node m)) job.plan.count + node_cost job (job.plan.kind n) x
node_change job node n x below =
    rw (put_at node n n x refl) at (total_change (λ m. node_cost job (job.plan.kind m) (node m)) (λ m. node_cost job (job.plan.kind m) (put node n x m)) n job.plan.count below
    (λ m other. ap (λ (y : Progress). node_cost job (job.plan.kind m) y) (put_other node n m x other)))

-- a task is written
pub task_change : (job : CoreJob) (s : State) (w : ℕ) (t : Task) → w < job.workers
    → total (λ v. worker_cost job (owns s.hold v) (put s.task w t v) (s.status v) (s.call v)) job.workers + worker_cost job (owns s.hold w) (s.task w) (s.status w) (s.call w)
    ≡ workers_measure job s + worker_cost job (owns s.hold w) t (s.status w) (s.call w)
task_change job s w t below =
    rw (put_at s.task w w t refl) at (total_change (λ v. worker_cost job (owns s.hold v) (s.task v) (s.status v) (s.call v)) (λ v. worker_cost job (owns s.hold v) (put s.task w t v) (s.status v) (s.call v)) w job.workers below
    (λ m other. ap (λ (y : Task). worker_cost job (owns s.hold m) y (s.status m) (s.call m)) (put_other s.task w m t other)))

claim_cost : (job : CoreJob) (k : Option Kind) (n : ℕ) (c : CallState) → job.plan.kind n ≡ k → k ≢ None
    → left_cost k + (task_cost job (Run n) + free_cost job (Run n) c) < first_cost k + leaf_cost job k
claim_cost job k n c e inside = grind arith

module _ (job : CoreJob) (s : State) (w : ℕ) (below : w < job.workers) (laws : IsPlan job.plan) (h : InductiveParts job s) where
  pub claim_lowers : (n : ℕ) → Needs job s w (Claim n) → measure job (record s { node = put s.node n Taken; task = put s.task w (Run n) }) < measure job s
  claim_lowers n needs =
      let out : job.plan.kind n ≢ None = λ e. (let f = h.nodes.outside n e in let g = needs.2 in cc) in
      let a = node_change job s.node n Taken (laws.within n out) in
      let b = task_change job s w (Run n) below in
      let a' = rw needs.2 at a in
      let b' = rw (needs.1, needs.0) at b in
      let c = claim_cost job (job.plan.kind n) n (s.call w) refl out in
      omega arith

free_le : (job : CoreJob) (t : Task) (c : CallState) → free_cost job t c ≤ due_cost job t
free_le job t c = grind arith

start_same : (job : CoreJob) (n t : ℕ) (c : CallState) → free_cost job (Run n) c ≡ free_cost job (Started n t) c
start_same job n t c = grind arith

run_leaf : (k : Option Kind) (u : ℕ) → k ≡ Some (LeafNode u) → run_cost k ≡ 5
run_leaf k u e = grind arith

after_le : (job : CoreJob) (n : ℕ) → (task_cost job (task_after n) ≤ 1) × (due_cost job (task_after n) ≡ 0)
after_le job n = elim (cases_eq n 0) [ inl e ↦ rw e (omega arith, refl) | inr other ↦ grind (arith, nat_tests) ]

-- a free worker's task becomes t' and costs less
pub task_lowers : (job : CoreJob) (s : State) (w : ℕ) (t t' : Task) → w < job.workers → s.status w ≡ Free → s.task w ≡ t
    → task_cost job t' + free_cost job t' (s.call w) < task_cost job t + free_cost job t (s.call w)
    → total (λ v. worker_cost job (owns s.hold v) (put s.task w t' v) (s.status v) (s.call v)) job.workers < workers_measure job s
task_lowers job s w t t' below free mine less = let a = rw (mine, free) at (task_change job s w t' below) in omega arith

ready_at : (job : CoreJob) (node : ℕ → Progress) (r m : ℕ) → node r ≡ Waiting → node_cost job (job.plan.kind m) (put node r Ready m) ≡ node_cost job (job.plan.kind m) (node m)
ready_at job node r m e = grind (arith, nat_tests)

-- a waiting node that becomes ready costs the same
pub ready_same : (job : CoreJob) (node : ℕ → Progress) (r : ℕ) → node r ≡ Waiting
    → total (λ m. node_cost job (job.plan.kind m) (put node r Ready m)) job.plan.count ≡ total (λ m. node_cost job (job.plan.kind m) (node m)) job.plan.count
ready_same job node r e = total_same (λ m. node_cost job (job.plan.kind m) (node m)) (λ m. node_cost job (job.plan.kind m) (put node r Ready m)) job.plan.count
    (λ m below. ready_at job node r m e)

-- a taken node that is done
pub done_change : (job : CoreJob) (node : ℕ → Progress) (n : ℕ) (x : Progress) → n < job.plan.count → node n ≡ Taken → node_cost job (job.plan.kind n) x ≡ 0
    → total (λ m. node_cost job (job.plan.kind m) (put node n x m)) job.plan.count + left_cost (job.plan.kind n)
    ≡ total (λ m. node_cost job (job.plan.kind m) (node m)) job.plan.count
done_change job node n x below taken none = let a = rw taken at (node_change job node n x below) in omega arith

module _ (job : CoreJob) (s : State) (w : ℕ) (below : w < job.workers) (laws : IsPlan job.plan) (h : InductiveParts job s) where
  pub start_lowers : (n : ℕ) → Needs job s w (Start n) → measure job (record s { tick = s.tick + 1; task = put s.task w (Started n s.tick) }) < measure job s
  start_lowers n needs =
      let a = run_leaf (job.plan.kind n) needs.2.0 needs.2.1 in
      let b = start_same job n s.tick (s.call w) in
      let c = task_lowers job s w (Run n) (Started n s.tick) below needs.0 needs.1 (omega arith) in omega arith

  pub open_right_lowers : (p l r : ℕ) → Needs job s w (OpenParRight p l r) → measure job (record s { node = put s.node r Ready; task = put s.task w (Half p) }) < measure job s
  open_right_lowers p l r needs =
      let fits : TaskFits job.plan s.node s.mark (Run p) = rw needs.1 at (h.tasks.fits w) in
      let a = ready_same job s.node r (fits.1 r (ap parent_of (laws.right_of_par p l r needs.2))) in
      let k : run_cost (job.plan.kind p) ≡ 2 = rw needs.2 refl in
      let b = free_le job (Half p) (s.call w) in
      let c = task_lowers job s w (Run p) (Half p) below needs.0 needs.1 (omega arith) in omega arith

  pub open_left_lowers : (p l r : ℕ) → Needs job s w (OpenParLeft p l r) → measure job (record s { node = put s.node l Ready; task = put s.task w Idle }) < measure job s
  open_left_lowers p l r needs =
      let fits : TaskFits job.plan s.node s.mark (Half p) = rw needs.1 at (h.tasks.fits w) in
      let same : l ≡ fits.0 = (let f = fits.2 in let g = needs.2 in cc) in
      let a = ready_same job s.node l (rw same fits.4) in
      let b = free_le job Idle (s.call w) in
      let c = task_lowers job s w (Half p) Idle below needs.0 needs.1 (omega arith) in omega arith

  pub open_first_lowers : (p l r : ℕ) → Needs job s w (OpenSeqLeft p l r) → measure job (record s { node = put s.node l Ready; task = put s.task w Idle }) < measure job s
  open_first_lowers p l r needs =
      let fits : TaskFits job.plan s.node s.mark (Run p) = rw needs.1 at (h.tasks.fits w) in
      let a = ready_same job s.node l (fits.1 l (ap parent_of (laws.left_of_seq p l r needs.2))) in
      let k : run_cost (job.plan.kind p) ≡ 1 = rw needs.2 refl in
      let b = free_le job Idle (s.call w) in
      let c = task_lowers job s w (Run p) Idle below needs.0 needs.1 (omega arith) in omega arith

  pub open_second_lowers : (p l r : ℕ) → Needs job s w (OpenSeqRight p l r) → measure job (record s { node = put s.node r Ready; task = put s.task w Idle }) < measure job s
  open_second_lowers p l r needs =
      let fits : TaskFits job.plan s.node s.mark (Whole l) = rw needs.1 at (h.tasks.fits w) in
      let same : p ≡ fits.1 = (let f = fits.2 in let g = ap parent_of (laws.left_of_seq p l r needs.2) in cc) in
      let a = ready_same job s.node r (fits.4 r (rw same at needs.2)) in
      let b = free_le job Idle (s.call w) in
      let c = task_lowers job s w (Whole l) Idle below needs.0 needs.1 (omega arith) in omega arith

  pub end_lowers : (n t : ℕ) → Needs job s w (End n t) → measure job (record s { tick = s.tick + 1; task = put s.task w (Ended n t s.tick) }) < measure job s
  end_lowers n t needs =
      let b = free_le job (Ended n t s.tick) (s.call w) in
      let c = task_lowers job s w (Kept n t) (Ended n t s.tick) below needs.0 needs.1 (omega arith) in omega arith

  pub arrive_first_lowers : (p l r n : ℕ) → Needs job s w (ArriveFirst p l r n) → measure job (record s { mark = put s.mark p 1; task = put s.task w Idle }) < measure job s
  arrive_first_lowers p l r n needs =
      let b = free_le job Idle (s.call w) in
      let c = task_lowers job s w (Whole n) Idle below needs.0 needs.1 (omega arith) in omega arith

  pub arrive_second_lowers : (p l r n : ℕ) → Needs job s w (ArriveSecond p l r n) → measure job (record s { mark = put s.mark p 2; task = put s.task w (Handed p) }) < measure job s
  arrive_second_lowers p l r n needs =
      let b = free_le job (Handed p) (s.call w) in
      let c = task_lowers job s w (Whole n) (Handed p) below needs.0 needs.1 (omega arith) in omega arith

  pub finish_leaf_lowers : (n t e : ℕ) → Needs job s w (FinishLeaf n t e) → measure job (record s { node = put s.node n (Ran w t e); task = put s.task w (task_after n) }) < measure job s
  finish_leaf_lowers n t e needs =
      let fits : TaskFits job.plan s.node s.mark (Ended n t e) = rw needs.1 at (h.tasks.fits w) in
      let a = done_change job s.node n (Ran w t e) (laws.within n (λ o. let f = fits.0.1 in cc)) fits.1 refl in
      let b = free_le job (task_after n) (s.call w) in
      let k = after_le job n in
      let c = task_lowers job s w (Ended n t e) (task_after n) below needs.0 needs.1 (omega arith) in omega arith

  pub finish_par_lowers : (p l r : ℕ) → Needs job s w (FinishPar p l r) → measure job (record s { node = put s.node p Done; task = put s.task w (task_after p) }) < measure job s
  finish_par_lowers p l r needs =
      let fits : TaskFits job.plan s.node s.mark (Handed p) = rw needs.1 at (h.tasks.fits w) in
      let a = done_change job s.node p Done (laws.within p (λ o. let f = needs.2 in cc)) fits.3 refl in
      let k : left_cost (job.plan.kind p) ≡ 2 = rw needs.2 refl in
      let b = free_le job (task_after p) (s.call w) in
      let d = after_le job p in
      let c = rw (needs.1, needs.0) at (task_change job s w (task_after p) below) in omega arith

  pub finish_seq_lowers : (p l r : ℕ) → Needs job s w (FinishSeq p l r) → measure job (record s { node = put s.node p Done; task = put s.task w (task_after p) }) < measure job s
  finish_seq_lowers p l r needs =
      let fits : TaskFits job.plan s.node s.mark (Whole r) = rw needs.1 at (h.tasks.fits w) in
      let same : p ≡ fits.1 = (let f = fits.2 in let g = ap parent_of (laws.right_of_seq p l r needs.2) in cc) in
      let a = done_change job s.node p Done (laws.within p (λ o. let f = needs.2 in cc)) (rw same fits.3) refl in
      let k : left_cost (job.plan.kind p) ≡ 1 = rw needs.2 refl in
      let b = free_le job (task_after p) (s.call w) in
      let d = after_le job p in
      let c = rw (needs.1, needs.0) at (task_change job s w (task_after p) below) in omega arith
