-- An arrival keeps the inductive invariant.
use Rattle.std.proofs.Common.{ℕ, ◌≡◌, ◌<◌, Bool, true, Option, Some, None, arith}
use Rattle.std.proofs.lemmas.Bool.Decides.{nat_tests}
use Rattle.core_model.proofs.Words.{IsPlan, Progress, Task, Idle, Whole, Handed, Status, CallState, ArriveFirst, ArriveSecond, put, CoreJob, State, is_done}
use Rattle.core_model.specs.Invariant.Tasks.{TaskFits}
use Rattle.core_model.specs.Events.{Needs}
use Rattle.core_model.specs.Invariant.Hold.{is_published}
use Rattle.core_model.proofs.Inductive.Nodes.{HoldersFit}
use Rattle.core_model.proofs.Inductive.Ticks.{stamps}
use Rattle.core_model.proofs.Inductive.Book.{booked_by, valued_by}
use Rattle.core_model.proofs.Inductive.Parts.{InductiveParts}
use Rattle.core_model.proofs.InvariantLemmas.FinishTasks as leaves
use Rattle.core_model.proofs.InvariantLemmas.JobSide.{job_keeps}

-- a side arrives: the worker gives up n, which is done
arrive_same : (node : ℕ → Progress) (task : ℕ → Task) (status : ℕ → Status) (call : ℕ → CallState) (b : Bool) (holder : ℕ → Option ℕ) (w n m : ℕ) → HoldersFit task holder
    → task w ≡ Whole n → is_done (node n) ≡ true
    → (stamps node (put task w Idle) (put holder n None) m ≡ stamps node task holder m)
    × (booked_by (node m) (put holder n None m) (put task w Idle) status call b ≡ booked_by (node m) (holder m) task status call b)
    × (valued_by (node m) (put holder n None m) (put task w Idle) ≡ valued_by (node m) (holder m) task)
arrive_same node task status call b holder w n m h mine done = grind (arith, nat_tests, h.holds w m)

-- and so, where it is handed the parent p, which no worker held
hand_same : (node : ℕ → Progress) (task : ℕ → Task) (status : ℕ → Status) (call : ℕ → CallState) (b : Bool) (holder : ℕ → Option ℕ) (w n p m : ℕ) → HoldersFit task holder
    → task w ≡ Whole n → is_done (node n) ≡ true → holder p ≡ None
    → (stamps node (put task w (Handed p)) (put (put holder n None) p (Some w)) m ≡ stamps node task holder m)
    × (booked_by (node m) (put (put holder n None) p (Some w) m) (put task w (Handed p)) status call b ≡ booked_by (node m) (holder m) task status call b)
    × (valued_by (node m) (put (put holder n None) p (Some w) m) (put task w (Handed p)) ≡ valued_by (node m) (holder m) task)
hand_same node task status call b holder w n p m h mine done free = grind (arith, nat_tests, h.holds w m)

module _ (job : CoreJob) (s : State) (w : ℕ) (laws : IsPlan job.plan) (below : w < job.workers) (h : InductiveParts job s) where
  -- the first arrival
  pub arrive_first_keeps : (p l r n : ℕ) → Needs job s w (ArriveFirst p l r n) → InductiveParts job (record s { mark = put s.mark p 1; task = put s.task w Idle })
  arrive_first_keeps p l r n needs =
      let mine : s.task w ≡ Whole n = needs.1 in
      let fits : TaskFits job.plan s.node s.mark (Whole n) = rw mine at (h.tasks.fits w) in
      let same = λ (m : ℕ). arrive_same s.node s.task s.status s.call (is_published s.hold) h.holder w n m h.tasks.holders mine fits.0 in
      job_keeps job s w below s.node (put s.mark p 1) Idle h (put h.holder n None) needs.0 (rw mine (λ x. x)) h.nodes
      (leaves.arrive_first job.plan s.node s.mark s.task h.holder w laws h.nodes h.tasks p l r n mine needs.2 needs.3 needs.4)
      (λ m. (same m).0) (λ m u leaf. (same m).1) (λ m. (same m).2) (λ m v a e ran. ran)

  -- the second one
  pub arrive_second_keeps : (p l r n : ℕ) → Needs job s w (ArriveSecond p l r n) → InductiveParts job (record s { mark = put s.mark p 2; task = put s.task w (Handed p) })
  arrive_second_keeps p l r n needs =
      let mine : s.task w ≡ Whole n = needs.1 in
      let fits : TaskFits job.plan s.node s.mark (Whole n) = rw mine at (h.tasks.fits w) in
      let free : h.holder p ≡ None = leaves.second_free job.plan s.node s.mark s.task h.holder w laws h.nodes h.tasks p l r n mine needs.2 needs.3 needs.4 in
      let same = λ (m : ℕ). hand_same s.node s.task s.status s.call (is_published s.hold) h.holder w n p m h.tasks.holders mine fits.0 free in
      job_keeps job s w below s.node (put s.mark p 2) (Handed p) h (put (put h.holder n None) p (Some w)) needs.0 (rw mine (λ x. x)) h.nodes
      (leaves.arrive_second job.plan s.node s.mark s.task h.holder w laws h.nodes h.tasks p l r n mine needs.2 needs.3 needs.4)
      (λ m. (same m).0) (λ m u leaf. (same m).1) (λ m. (same m).2) (λ m v a e ran. ran)
