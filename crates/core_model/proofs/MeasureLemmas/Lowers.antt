-- Each event of a turn lowers the count of events left, and at the opening it is at most six for each node, and for
-- each leaf that calls six more and as many as there are workers.
use Rattle.std.proofs.Common.{ℕ, zero, suc, ◌≡◌, ◌≢◌, ◌<◌, ◌≤◌, ◌+◌, ◌*◌, false, Option, Some, None, [], ◌∷◌, ◌++◌, arith, refl, sym, ◌∙◌}
use Rattle.std.proofs.lemmas.Bool.Decides.{nat_tests}
use Rattle.core_model.proofs.Words.{Op, Kind, LeafNode, IsPlan, Waiting, Ready, Idle, Status, Free, Pending, NotCalled, Event, Claim, Start, OpenParRight, OpenParLeft, OpenSeqLeft, OpenSeqRight, Post, Win, Take, Publish, Answer, Release, Leave, Keep, End, FinishLeaf, FinishSeq, FinishPar, ArriveFirst, ArriveSecond, put, CoreJob, State, CoreState}
use Rattle.core_model.specs.State.{opening_state}
use Rattle.core_model.specs.Operations.{op_in}
use Rattle.core_model.specs.Serving.{served}
use Rattle.core_model.specs.Events.{Needs, Does}
use Rattle.core_model.proofs.Inductive.Parts.{InductiveParts}
use Rattle.core_model.specs.Choice.{choice_by, choice}
use Rattle.core_model.specs.Measure.{total, measure, node_cost, worker_cost, leaf_cost, first_cost, call_cost, one_if, one_if_call, call_count}
use Rattle.core_model.proofs.ChoiceLemmas.Ready.{not_under}
use Rattle.core_model.proofs.MeasureLemmas.Jobs.{claim_lowers, start_lowers, open_right_lowers, open_left_lowers, open_first_lowers, open_second_lowers, end_lowers, arrive_first_lowers, arrive_second_lowers, finish_leaf_lowers, finish_seq_lowers, finish_par_lowers}
use Rattle.core_model.proofs.MeasureLemmas.Gate.{keep_lowers, post_lowers, win_lowers, take_lowers, publish_lowers, answer_lowers, release_lowers, leave_lowers}

-- an event lowers the measure, if a winner of the flag is pending: a served worker could win again and again
pub event_lowers : (job : CoreJob) (s : State) (w : ℕ) (event : Event) (new : State) → IsPlan job.plan → w < job.workers → InductiveParts job s → Needs job s w event
    → (event ≡ Win → s.status w ≡ Pending) → Does job s w event new → measure job new < measure job s
event_lowers job s w (Claim n) new laws below h needs turns does = rw does (claim_lowers job s w below laws h n needs)
event_lowers job s w (Start n) new laws below h needs turns does = rw does (start_lowers job s w below laws h n needs)
event_lowers job s w (OpenParRight p l r) new laws below h needs turns does = rw does (open_right_lowers job s w below laws h p l r needs)
event_lowers job s w (OpenParLeft p l r) new laws below h needs turns does = rw does (open_left_lowers job s w below laws h p l r needs)
event_lowers job s w (OpenSeqLeft p l r) new laws below h needs turns does = rw does (open_first_lowers job s w below laws h p l r needs)
event_lowers job s w (OpenSeqRight p l r) new laws below h needs turns does = rw does (open_second_lowers job s w below laws h p l r needs)
event_lowers job s w (Keep n t v) new laws below h needs turns does = rw does (keep_lowers job s w below h n t v needs)
event_lowers job s w (End n t) new laws below h needs turns does = rw does (end_lowers job s w below laws h n t needs)
event_lowers job s w (FinishLeaf n t e) new laws below h needs turns does = rw does (finish_leaf_lowers job s w below laws h n t e needs)
event_lowers job s w (FinishSeq p l r) new laws below h needs turns does = rw does (finish_seq_lowers job s w below laws h p l r needs)
event_lowers job s w (FinishPar p l r) new laws below h needs turns does = rw does (finish_par_lowers job s w below laws h p l r needs)
event_lowers job s w (ArriveFirst p l r n) new laws below h needs turns does = rw does (arrive_first_lowers job s w below laws h p l r n needs)
event_lowers job s w (ArriveSecond p l r n) new laws below h needs turns does = rw does (arrive_second_lowers job s w below laws h p l r n needs)
event_lowers job s w (Post n t) new laws below h needs turns does = rw does (post_lowers job s w below h n t needs)
event_lowers job s w Win new laws below h needs turns does = rw does (win_lowers job s w below h (turns refl) needs)
event_lowers job s w (Take u) new laws below h needs turns does = rw does (take_lowers job s w below h u needs)
event_lowers job s w Publish new laws below h needs turns does = rw does.2 (publish_lowers job s w below h (s.book ++ does.0 ∷ []) (served s.objects does.0) needs)
event_lowers job s w (Answer u r) new laws below h needs turns does = rw does (answer_lowers job s w below h u r needs)
event_lowers job s w Release new laws below h needs turns does = rw does (release_lowers job s w below h needs)
event_lowers job s w (Leave r) new laws below h needs turns does = rw does (leave_lowers job s w below h r needs)

by_pending : (job : CoreJob) (s : CoreState) (w : ℕ) (st : Status) → choice_by job s w st ≡ Some Win → st ≢ Free → st ≡ Pending
by_pending job s w Free e busy = absurd (busy refl)
by_pending job s w Pending e busy = refl
by_pending job s w _ e busy = absurd (grind arith)

-- a turn wins the flag for a pending worker alone
pub wins_pending : (job : CoreJob) (s : CoreState) (w : ℕ) → Needs job s.state w Win → choice job s w ≡ Some Win → s.state.status w ≡ Pending
wins_pending job s w needs chosen =
    by_pending job s w (s.state.status w) (sym (not_under job s w s.state.hold (λ h e. (let f = sym needs.2 ∙ e in absurd cc))) ∙ chosen) needs.0

pub turn_lowers : (job : CoreJob) (s : CoreState) (w : ℕ) (event : Event) (new : State) → IsPlan job.plan → w < job.workers → InductiveParts job s.state
    → choice job s w ≡ Some event → Needs job s.state w event → Does job s.state w event new → measure job new < measure job s.state
turn_lowers job s w event new laws below h chosen needs does =
    event_lowers job s.state w event new laws below h needs
    (λ win. wins_pending job s w (rw win at needs) (rw win at chosen)) does

leaf_start : (p : ℕ) (o : Option Op) → call_cost p o ≡ one_if o * (p + 6)
leaf_start p None = omega arith
leaf_start p (Some op) = omega arith

start_cost : (job : CoreJob) (k : Option Kind) → first_cost k + leaf_cost job k ≤ 6 + one_if_call job k * (job.workers + 6)
start_cost job (Some (LeafNode u)) = let a = leaf_start job.workers (op_in (job.act u)) in omega (arith, a)
start_cost job _ = omega arith

total_bound : (f g : ℕ → ℕ) (k n : ℕ) → ((m : ℕ) → f m ≤ 6 + g m * k) → total f n ≤ 6 * n + total g n * k
total_bound f g k zero h = omega arith
total_bound f g k (suc n) h = let a = h n in let b : total f n ≤ 6 * n + total g n * k = total_bound f g k n h in let c : (g n + total g n) * k ≡ g n * k + total g n * k = omega arith in omega arith

pub total_zero : (f : ℕ → ℕ) (n : ℕ) → ((m : ℕ) → f m ≡ 0) → total f n ≡ 0
total_zero f zero h = refl
total_zero f (suc n) h = let a = h n in let b = total_zero f n h in omega arith

open_at : (job : CoreJob) (k : Option Kind) (m : ℕ) → node_cost job k (put (λ n. Waiting) 0 Ready m) ≡ first_cost k + leaf_cost job k
open_at job k m = grind (arith, nat_tests)

open_cost : (job : CoreJob) (m : ℕ) → node_cost job (job.plan.kind m) (put (λ n. Waiting) 0 Ready m) ≤ 6 + one_if_call job (job.plan.kind m) * (job.workers + 6)
open_cost job m = rw (open_at job (job.plan.kind m) m) (start_cost job (job.plan.kind m))

-- the bound
pub opening_fuel : (job : CoreJob) → measure job opening_state ≤ 6 * job.plan.count + call_count job * (job.workers + 6)
unfolding opening_state
opening_fuel job =
    let a = total_bound (λ m. node_cost job (job.plan.kind m) (put (λ n. Waiting) 0 Ready m)) (λ m. one_if_call job (job.plan.kind m)) (job.workers + 6) job.plan.count (open_cost job) in
    let b = total_zero (λ w. worker_cost job false Idle Free NotCalled) job.workers (λ m. refl) in
    omega arith
