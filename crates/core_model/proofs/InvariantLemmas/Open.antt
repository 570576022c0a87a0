-- The four opens keep the inductive invariant.
use Rattle.std.proofs.Common.{ℕ, ◌≡◌, ◌<◌, ◌⊎◌, Bool, true, Option, Some, None, arith, refl, inl, inr, ap}
use Rattle.std.proofs.lemmas.Bool.Decides.{nat_tests}
use Rattle.core_model.proofs.Words.{SeqNode, ParNode, Nodes, IsPlan, IsSide, parent_of, Progress, Waiting, Ready, Taken, Task, Idle, Run, Half, Whole, Status, CallState, OpenParRight, OpenParLeft, OpenSeqLeft, OpenSeqRight, put, CoreJob, State, is_done, names}
use Rattle.core_model.specs.Invariant.Tasks.{TaskFits}
use Rattle.core_model.specs.Events.{Needs}
use Rattle.core_model.specs.Invariant.Hold.{is_published}
use Rattle.core_model.proofs.Inductive.Nodes.{HoldersFit}
use Rattle.core_model.proofs.Inductive.Ticks.{stamps}
use Rattle.core_model.proofs.Inductive.Book.{booked_by, valued_by}
use Rattle.core_model.proofs.Inductive.Parts.{InductiveParts}
use Rattle.core_model.proofs.InvariantLemmas.NodeSteps.{open_nodes}
use Rattle.core_model.proofs.InvariantLemmas.OpenTasks as opens
use Rattle.core_model.proofs.InvariantLemmas.JobSide.{still_ran, job_keeps}

-- a node opens: nothing changes in stamps and in which calls are in the book
open_same : (node : ℕ → Progress) (task : ℕ → Task) (status : ℕ → Status) (call : ℕ → CallState) (b : Bool) (holder holds : ℕ → Option ℕ) (w n k m : ℕ) (t : Task) → HoldersFit task holder
    → node n ≡ Waiting → names (task w) ≡ Some k → (names t ≡ Some k → holds m ≡ holder m) → (names t ≡ None → holds m ≡ put holder k None m) → t ≡ Half k ⊎ t ≡ Idle
    → task w ≡ Run k ⊎ (task w ≡ Half k ⊎ task w ≡ Whole k)
    → (stamps (put node n Ready) (put task w t) holds m ≡ stamps node task holder m)
    × (booked_by (put node n Ready m) (holds m) (put task w t) status call b ≡ booked_by (node m) (holder m) task status call b)
    × (valued_by (put node n Ready m) (holds m) (put task w t) ≡ valued_by (node m) (holder m) task)
open_same node task status call b holder holds w n k m t h waits mine same drop new old = grind (arith, nat_tests, h.holds w m)

-- a parallel block is no series
par_not_seq : (plan : Nodes) (p a b c d : ℕ) → plan.kind p ≡ Some (ParNode a b) → plan.kind p ≡ Some (SeqNode c d) → ⊥
par_not_seq plan p a b c d e f = cc

-- a series has one left side
one_left : (plan : Nodes) (p l k r : ℕ) → plan.kind p ≡ Some (SeqNode l r) → plan.kind p ≡ Some (SeqNode k r) → l ≡ k
one_left plan p l k r e f = cc

module _ (job : CoreJob) (s : State) (w : ℕ) (laws : IsPlan job.plan) (below : w < job.workers) (h : InductiveParts job s) where
  -- the right side of a parallel block is made ready
  pub open_right_keeps : (p l r : ℕ) → Needs job s w (OpenParRight p l r) → InductiveParts job (record s { node = put s.node r Ready; task = put s.task w (Half p) })
  open_right_keeps p l r needs =
      let mine : s.task w ≡ Run p = needs.1 in
      let fits : TaskFits job.plan s.node s.mark (Run p) = rw mine at (h.tasks.fits w) in
      let side : IsSide job.plan p r = ap parent_of (laws.right_of_par p l r needs.2) in
      let waits : s.node r ≡ Waiting = fits.1 r side in
      let same = λ (m : ℕ). open_same s.node s.task s.status s.call (is_published s.hold) h.holder h.holder w r p m (Half p) h.tasks.holders waits (rw mine refl) (λ e. refl) (λ e. cc) (inl refl) (inl mine) in
      job_keeps job s w below (put s.node r Ready) s.mark (Half p) h h.holder needs.0 (rw mine (λ x. x))
      (open_nodes job.plan s.node p r laws h.nodes side fits.0 waits (λ k seq. absurd (par_not_seq job.plan p l r k r needs.2 seq)))
      (opens.open_right job.plan s.node s.mark s.task h.holder w laws h.nodes h.tasks p l r mine needs.2)
      (λ m. (same m).0) (λ m u leaf. (same m).1) (λ m. (same m).2) (still_ran s.node r Ready (grind arith))

  -- the left side of a parallel block is made ready
  pub open_left_keeps : (p l r : ℕ) → Needs job s w (OpenParLeft p l r) → InductiveParts job (record s { node = put s.node l Ready; task = put s.task w Idle })
  open_left_keeps p l r needs =
      let mine : s.task w ≡ Half p = needs.1 in
      let fits : TaskFits job.plan s.node s.mark (Half p) = rw mine at (h.tasks.fits w) in
      let side : IsSide job.plan p l = ap parent_of (laws.left_of_par p l r needs.2) in
      let waits : s.node l ≡ Waiting = grind arith in
      let taken : s.node p ≡ Taken = grind arith in
      let same = λ (m : ℕ). open_same s.node s.task s.status s.call (is_published s.hold) h.holder (put h.holder p None) w l p m Idle h.tasks.holders waits (rw mine refl) (λ e. cc) (λ e. refl) (inr refl) (inr (inl mine)) in
      job_keeps job s w below (put s.node l Ready) s.mark Idle h (put h.holder p None) needs.0 (rw mine (λ x. x))
      (open_nodes job.plan s.node p l laws h.nodes side taken waits (λ k seq. absurd (par_not_seq job.plan p l r k l needs.2 seq)))
      (opens.open_left job.plan s.node s.mark s.task h.holder w laws h.nodes h.tasks p l r mine needs.2)
      (λ m. (same m).0) (λ m u leaf. (same m).1) (λ m. (same m).2) (still_ran s.node l Ready (grind arith))

  -- the left side of a series is made ready
  pub open_first_keeps : (p l r : ℕ) → Needs job s w (OpenSeqLeft p l r) → InductiveParts job (record s { node = put s.node l Ready; task = put s.task w Idle })
  open_first_keeps p l r needs =
      let mine : s.task w ≡ Run p = needs.1 in
      let fits : TaskFits job.plan s.node s.mark (Run p) = rw mine at (h.tasks.fits w) in
      let side : IsSide job.plan p l = ap parent_of (laws.left_of_seq p l r needs.2) in
      let waits : s.node l ≡ Waiting = fits.1 l side in
      let same = λ (m : ℕ). open_same s.node s.task s.status s.call (is_published s.hold) h.holder (put h.holder p None) w l p m Idle h.tasks.holders waits (rw mine refl) (λ e. cc) (λ e. refl) (inr refl) (inl mine) in
      job_keeps job s w below (put s.node l Ready) s.mark Idle h (put h.holder p None) needs.0 (rw mine (λ x. x))
      (open_nodes job.plan s.node p l laws h.nodes side fits.0 waits (λ k seq. absurd (grind (arith, laws.left_of_seq p l r needs.2, laws.right_of_seq p k l seq))))
      (opens.open_first job.plan s.node s.mark s.task h.holder w laws h.nodes h.tasks p l r mine needs.2)
      (λ m. (same m).0) (λ m u leaf. (same m).1) (λ m. (same m).2) (still_ran s.node l Ready (grind arith))

  -- the right side of a series is made ready
  pub open_second_keeps : (p l r : ℕ) → Needs job s w (OpenSeqRight p l r) → InductiveParts job (record s { node = put s.node r Ready; task = put s.task w Idle })
  open_second_keeps p l r needs =
      let mine : s.task w ≡ Whole l = needs.1 in
      let fits : TaskFits job.plan s.node s.mark (Whole l) = rw mine at (h.tasks.fits w) in
      let side_l : IsSide job.plan p l = ap parent_of (laws.left_of_seq p l r needs.2) in
      let side : IsSide job.plan p r = ap parent_of (laws.right_of_seq p l r needs.2) in
      let taken : s.node p ≡ Taken = grind arith in
      let waits : s.node r ≡ Waiting = grind arith in
      let done : is_done (s.node l) ≡ true = fits.0 in
      let same = λ (m : ℕ). open_same s.node s.task s.status s.call (is_published s.hold) h.holder (put h.holder l None) w r l m Idle h.tasks.holders waits (rw mine refl) (λ e. cc) (λ e. refl) (inr refl) (inr (inr mine)) in
      job_keeps job s w below (put s.node r Ready) s.mark Idle h (put h.holder l None) needs.0 (rw mine (λ x. x))
      (open_nodes job.plan s.node p r laws h.nodes side taken waits (λ k seq. rw (one_left job.plan p l k r needs.2 seq) at done))
      (opens.open_second job.plan s.node s.mark s.task h.holder w laws h.nodes h.tasks p l r mine needs.2)
      (λ m. (same m).0) (λ m u leaf. (same m).1) (λ m. (same m).2) (still_ran s.node r Ready (grind arith))
