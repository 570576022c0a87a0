-- The tasks, as a worker claims a node.
use Rattle.std.proofs.Common.{ℕ, ◌≡◌, ◌<◌, ◌≤◌, Option, Some, None, arith, refl}
use Rattle.std.proofs.lemmas.Bool.Decides.{nat_tests}
use Rattle.core_model.proofs.Words.{Nodes, IsPlan, Progress, Ready, Taken, Task, Idle, Run, put}
use Rattle.core_model.specs.Invariant.Tasks.{TaskFits}
use Rattle.core_model.proofs.Inductive.Nodes.{InductiveNodes, InductiveTasks}
use Rattle.core_model.proofs.InvariantLemmas.Puts.{put_each}
use Rattle.core_model.proofs.InvariantLemmas.Holders.{take_task}
use Rattle.core_model.proofs.InvariantLemmas.TaskFrames.{claim_task, unheld}

-- a worker claims a ready node
pub claim_tasks : (plan : Nodes) (node : ℕ → Progress) (mark : ℕ → ℕ) (task : ℕ → Task) (holder : ℕ → Option ℕ) (w n : ℕ)
    → IsPlan plan → InductiveNodes plan node → InductiveTasks plan node mark task holder
    → task w ≡ Idle → node n ≡ Ready
    → InductiveTasks plan (put node n Taken) mark (put task w (Run n)) (put holder n (Some w))
claim_tasks plan node mark task holder w n laws nodes h idle ready =
    let free : holder n ≡ None = unheld plan node mark task holder n h (grind arith) (grind arith) in
    record {
      holders = take_task task holder w n (Run n) h.holders (grind arith) refl free;
      fits = put_each (TaskFits plan (put node n Taken) mark) task w (Run n)
          (grind (arith, nat_tests), λ m side. grind (arith, nat_tests, nodes.below_ready n m side, laws.deeper n m side))
          (λ v other. claim_task plan node mark n ready (task v) (h.fits v));
      alone = λ p taken nobody. grind (arith, nat_tests, h.alone p);
      marks = λ p l r par. grind (arith, nat_tests, h.marks p l r par);
    }

-- a worker's task says nothing of the workers beyond the last
pub beyond_put : (workers : ℕ) (task : ℕ → Task) (w : ℕ) (t : Task) → w < workers → ((v : ℕ) → workers ≤ v → task v ≡ Idle) → (v : ℕ) → workers ≤ v → put task w t v ≡ Idle
beyond_put workers task w t below h v far = grind (arith, nat_tests, h v)
