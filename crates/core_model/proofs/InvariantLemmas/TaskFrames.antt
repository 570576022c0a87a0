-- What the task of another worker says, as a node or a mark changes.
use Rattle.std.proofs.Common.{ℕ, ◌≡◌, ◌≢◌, ◌⊎◌, true, false, Option, Some, None, arith, refl}
use Rattle.std.proofs.lemmas.Bool.Decides.{nat_tests}
use Rattle.core_model.proofs.Words.{SeqNode, ParNode, FinishParent, Arrive, Nodes, IsPlan, IsSide, Progress, Waiting, Ready, Taken, Task, Handed, put, is_done, names}
use Rattle.core_model.specs.Invariant.Tasks.{TaskFits}
use Rattle.core_model.proofs.Inductive.Nodes.{InductiveTasks}

-- another task, when a ready node is taken
pub claim_task : (plan : Nodes) (node : ℕ → Progress) (mark : ℕ → ℕ) (n : ℕ) → node n ≡ Ready → (t : Task) → TaskFits plan node mark t → TaskFits plan (put node n Taken) mark t
claim_task plan node mark n ready t h = grind (arith, nat_tests)

-- another task, when a waiting node n below p becomes ready
pub open_task : (plan : Nodes) (node : ℕ → Progress) (mark : ℕ → ℕ) (p n : ℕ)
    → ((q l r : ℕ) → plan.kind q ≡ Some (ParNode l r) → plan.after l ≡ Arrive q) → ((q l r : ℕ) → plan.kind q ≡ Some (SeqNode l r) → plan.after r ≡ FinishParent q)
    → IsSide plan p n → node n ≡ Waiting
    → (t : Task) → names t ≢ Some p → ((l : ℕ) → plan.kind p ≡ Some (SeqNode l n) → names t ≢ Some l)
    → TaskFits plan node mark t → TaskFits plan (put node n Ready) mark t
open_task plan node mark p n left_of_par right_of_seq side waits t apart apart_left h = grind (arith, nat_tests)

-- another task, when a taken node is done
pub finish_task : (plan : Nodes) (node : ℕ → Progress) (mark : ℕ → ℕ) (n : ℕ) (x : Progress) → IsPlan plan → node n ≡ Taken → is_done x ≡ true
    → (t : Task) → names t ≢ Some n → ((m : ℕ) → IsSide plan n m → names t ≢ Some m)
    → TaskFits plan node mark t → TaskFits plan (put node n x) mark t
finish_task plan node mark n x laws taken done t apart apart_sides h = grind (arith, nat_tests)

-- another task, when a mark rises
pub arrive_task : (plan : Nodes) (node : ℕ → Progress) (mark : ℕ → ℕ) (p k : ℕ)
    → (t : Task) → t ≢ Handed p
    → TaskFits plan node mark t → TaskFits plan node (put mark p k) t
arrive_task plan node mark p k t apart h = grind (arith, nat_tests)

-- a node that a task names is taken or done
pub named_state : (plan : Nodes) (node : ℕ → Progress) (mark : ℕ → ℕ) (t : Task) (n : ℕ) → TaskFits plan node mark t → names t ≡ Some n
    → (node n ≡ Taken) ⊎ (is_done (node n) ≡ true)
named_state plan node mark t n h name = grind (arith, nat_tests)

-- no worker holds a node that is waiting or ready
pub unheld : (plan : Nodes) (node : ℕ → Progress) (mark : ℕ → ℕ) (task : ℕ → Task) (holder : ℕ → Option ℕ) (n : ℕ) → InductiveTasks plan node mark task holder
    → node n ≢ Taken → is_done (node n) ≡ false → holder n ≡ None
unheld plan node mark task holder n h taken done =
    elim (holder n) as (λ o. holder n ≡ o → holder n ≡ None) [
      | None ↦ λ e. e
      | Some v ↦ λ e. grind (arith, named_state plan node mark (task v) n (h.fits v) (h.holders.holds v n e))
    ] refl
