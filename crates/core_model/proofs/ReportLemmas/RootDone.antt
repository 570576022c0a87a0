-- Once the root is done, all is done: each node is done, and no worker has a task, a call or the flag.
use Rattle.std.proofs.Common.{ℕ, zero, suc, ◌≡◌, ◌≢◌, ◌<◌, Option, None, Some, true, arith, refl, sym, ◌∙◌}
use Rattle.core_model.proofs.Words.{Kind, Move, Root, OpenSecond, FinishParent, Arrive, Nodes, IsPlan, HasSide, IsSide, Progress, Taken, Task, Idle, Run, Half, Started, Kept, Ended, Whole, Handed, Status, Free, Out, CoreJob, Hold, State, is_done}
use Rattle.sp_order.specs.Plans.{itself}
use Rattle.core_model.specs.Invariant.Tasks.{TaskFits}
use Rattle.core_model.specs.Invariant.Statuses.{IsAtCall}
use Rattle.core_model.specs.Invariant.Hold.{HoldInvariant}
use Rattle.core_model.specs.Invariant.{Parts}

-- what has a side is a node
names_side : (kind : Option Kind) (n : ℕ) → HasSide kind n → kind ≢ None
names_side None n h none = h
names_side (Some kind) n h none = cc

-- where no node is taken, a task says nothing
no_task : (task : Task) (plan : Nodes) (node : ℕ → Progress) (mark : ℕ → ℕ) → ((n : ℕ) → node n ≢ Taken) → TaskFits plan node mark task → task ≡ Idle
no_task Idle plan node mark none h = refl
no_task (Run n) plan node mark none h = absurd (none n h.0)
no_task (Half p) plan node mark none h = absurd (none p h.3)
no_task (Started n s) plan node mark none h = absurd (none n h.1)
no_task (Kept n s) plan node mark none h = absurd (none n h.1)
no_task (Ended n s e) plan node mark none h = absurd (none n h.1)
no_task (Whole n) plan node mark none h = absurd (none h.1 h.3)
no_task (Handed p) plan node mark none h = absurd (none p h.3)

-- a status that is not trapped is free
pub is_free : (status : Status) → (status ≢ Free → ⊥) → status ≡ Free
is_free Free h = refl
is_free _ h = absurd (h (λ e. cc))

module _ (job : CoreJob) (s : State) (laws : IsPlan job.plan) (h : Parts job s) (done : is_done (s.node 0) ≡ true) where
  -- a node is done if those with lower numbers are
  done_next : (n : ℕ) → job.plan.kind n ≢ None → ((p : ℕ) → p < n → job.plan.kind p ≢ None → is_done (s.node p) ≡ true) → is_done (s.node n) ≡ true
  done_next n node lower = below (job.plan.after n) refl where
    under : (p : ℕ) → IsSide job.plan p n → is_done (s.node n) ≡ true
    under p side = h.nodes.below_done p n (n, side, itself) (lower p (laws.deeper p n side) (names_side (job.plan.kind p) n (laws.has_side p n side)))

    below : (move : Move) → job.plan.after n ≡ move → is_done (s.node n) ≡ true
    below Root e = rw (laws.one_root n node e) done
    below (OpenSecond p) e = under p (rw e refl)
    below (FinishParent p) e = under p (rw e refl)
    below (Arrive p) e = under p (rw e refl)

  -- so is each with a number below a bound
  done_below : (bound n : ℕ) → n < bound → job.plan.kind n ≢ None → is_done (s.node n) ≡ true
  done_below zero n low node = absurd (omega (arith, low))
  done_below (suc bound) n low node = done_next n node (λ p less. done_below bound p (omega (arith, less, low)))

  -- and each node
  pub each_done : (n : ℕ) → job.plan.kind n ≢ None → is_done (s.node n) ≡ true
  each_done n node = done_below (suc n) n (omega arith) node

  -- so none is taken
  none_taken : (n : ℕ) → s.node n ≢ Taken
  none_taken n taken = no (job.plan.kind n) refl where
    no : (kind : Option Kind) → job.plan.kind n ≡ kind → ⊥
    no None e = let waits = sym (h.nodes.outside n e) ∙ taken in cc
    no (Some kind) e = let d = each_done n (λ none. let f = sym e ∙ none in cc) in let f = rw taken at d in cc

  -- no worker has a task
  pub each_idle : (w : ℕ) → s.task w ≡ Idle
  each_idle w = no_task (s.task w) job.plan s.node s.mark none_taken (h.tasks.says w)

  -- no worker waits for a call
  none_out : (w : ℕ) → s.call w ≢ Out
  none_out w out = let at : IsAtCall job Idle = rw (each_idle w) at (h.statuses.at_call w (λ e. let f = sym e ∙ out in cc)) in at

  -- each status is free
  pub each_free : (w : ℕ) → s.status w ≡ Free
  each_free w = is_free (s.status w) (λ trapped. none_out w ((h.statuses.out w).1 trapped))

  -- and no worker has the flag
  pub no_hold : s.hold ≡ None
  no_hold = none (s.hold) refl where
    none : (hold : Option Hold) → s.hold ≡ hold → s.hold ≡ None
    none None e = e
    none (Some held) e = let stands : HoldInvariant job.workers s.status s.call (Some held) = rw e at h.hold in absurd (none_out held.worker stands.0)
