-- A claim keeps the inductive invariant.
use Rattle.std.proofs.Common.{ℕ, ◌≡◌, ◌<◌, Bool, Option, Some, arith, refl}
use Rattle.std.proofs.lemmas.Bool.Decides.{nat_tests}
use Rattle.core_model.proofs.Words.{IsPlan, Progress, Ready, Taken, Task, Idle, Run, Status, CallState, Claim, put, CoreJob, State}
use Rattle.core_model.specs.Events.{Needs}
use Rattle.core_model.specs.Invariant.Hold.{is_published}
use Rattle.core_model.proofs.Inductive.Nodes.{HoldersFit}
use Rattle.core_model.proofs.Inductive.Ticks.{stamps}
use Rattle.core_model.proofs.Inductive.Book.{booked_by, valued_by}
use Rattle.core_model.proofs.Inductive.Parts.{InductiveParts}
use Rattle.core_model.proofs.InvariantLemmas.NodeSteps.{claim_nodes}
use Rattle.core_model.proofs.InvariantLemmas.ClaimTasks.{claim_tasks}
use Rattle.core_model.proofs.InvariantLemmas.JobSide.{still_ran, job_keeps}

-- a claim changes no stamp
claim_stamp : (node : ℕ → Progress) (task : ℕ → Task) (holder : ℕ → Option ℕ) (w n m : ℕ) → HoldersFit task holder → task w ≡ Idle → node n ≡ Ready
    → stamps (put node n Taken) (put task w (Run n)) (put holder n (Some w)) m ≡ stamps node task holder m
claim_stamp node task holder w n m h idle ready = grind (arith, nat_tests, h.holds w m)

-- nor which calls are in the book
claim_booked : (node : ℕ → Progress) (task : ℕ → Task) (status : ℕ → Status) (call : ℕ → CallState) (b : Bool) (holder : ℕ → Option ℕ) (w n m : ℕ) → HoldersFit task holder → task w ≡ Idle → node n ≡ Ready
    → booked_by (put node n Taken m) (put holder n (Some w) m) (put task w (Run n)) status call b ≡ booked_by (node m) (holder m) task status call b
claim_booked node task status call b holder w n m h idle ready = grind (arith, nat_tests, h.holds w m)

-- nor which leaves have their values
claim_valued : (node : ℕ → Progress) (task : ℕ → Task) (holder : ℕ → Option ℕ) (w n m : ℕ) → HoldersFit task holder → task w ≡ Idle → node n ≡ Ready
    → valued_by (put node n Taken m) (put holder n (Some w) m) (put task w (Run n)) ≡ valued_by (node m) (holder m) task
claim_valued node task holder w n m h idle ready = grind (arith, nat_tests, h.holds w m)

-- the inductive invariant, after a claim
pub claim_keeps : (job : CoreJob) (s : State) (w n : ℕ) → IsPlan job.plan → w < job.workers → InductiveParts job s → Needs job s w (Claim n) → InductiveParts job (record s { node = put s.node n Taken; task = put s.task w (Run n) })
claim_keeps job s w n laws under h needs =
    job_keeps job s w under (put s.node n Taken) s.mark (Run n) h (put h.holder n (Some w)) needs.0 (rw needs.1 (λ x. x))
    (claim_nodes job.plan s.node n laws h.nodes needs.2)
    (claim_tasks job.plan s.node s.mark s.task h.holder w n laws h.nodes h.tasks needs.1 needs.2)
    (λ m. claim_stamp s.node s.task h.holder w n m h.tasks.holders needs.1 needs.2)
    (λ m u leaf. claim_booked s.node s.task s.status s.call (is_published s.hold) h.holder w n m h.tasks.holders needs.1 needs.2)
    (λ m. claim_valued s.node s.task h.holder w n m h.tasks.holders needs.1 needs.2)
    (still_ran s.node n Taken (rw needs.2 refl))
