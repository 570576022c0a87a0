-- The stamp of a leaf that has a start or an end, by the task that names it.
use Rattle.std.proofs.Common.{ℕ, ◌≡◌, Option, Some, None, refl, inl, inr, ◌∙◌, ap}
use Rattle.core_model.proofs.Words.{Nodes, Progress, Taken, Task, Started, Kept, Ended, names}
use Rattle.core_model.specs.Operations.{IsLeaf}
use Rattle.core_model.specs.Invariant.Tasks.{TaskFits}
use Rattle.core_model.specs.Invariant.Ticks.{IsStartedAs, HasStart, HasEnd}
use Rattle.core_model.proofs.Inductive.Nodes.{InductiveTasks}
use Rattle.core_model.proofs.Inductive.Ticks.{stamp, stamp_in_task, stamps}

-- a task that names a leaf as started names it
pub started_name : (t : Task) (n s : ℕ) → IsStartedAs t n s → names t ≡ Some n
started_name (Started m a) n s is = ap Some is.0
started_name (Kept m a) n s is = ap Some is.0
started_name (Ended m a e) n s is = ap Some is.0
started_name _ n s is = absurd is

-- and says that it is a taken leaf
pub started_leaf : (plan : Nodes) (node : ℕ → Progress) (mark : ℕ → ℕ) (t : Task) (n s : ℕ) → IsStartedAs t n s → TaskFits plan node mark t → IsLeaf (plan.kind n) × (node n ≡ Taken)
started_leaf plan node mark (Started m a) n s is fits = rw (← is.0) fits
started_leaf plan node mark (Kept m a) n s is fits = rw (← is.0) fits
started_leaf plan node mark (Ended m a e) n s is fits = rw (← is.0) fits
started_leaf plan node mark _ n s is fits = absurd is

-- its stamp has this worker and this start, and an end where the task has one
started_stamp : (t : Task) (w n s : ℕ) → IsStartedAs t n s
    → (d : Option ℕ) × (stamp_in_task w t ≡ Some (stamp w s d)) × ((e : ℕ) → d ≡ Some e → t ≡ Ended n s e)
started_stamp (Started m a) w n s is = (None, ap (λ (b : ℕ). Some (stamp w b None)) is.1, λ e f. cc)
started_stamp (Kept m a) w n s is = (None, ap (λ (b : ℕ). Some (stamp w b None)) is.1, λ e f. cc)
started_stamp (Ended m a b) w n s is =
    (Some b, ap (λ (x : ℕ). Some (stamp w x (Some b))) is.1, λ e f. let m_is : m ≡ n = is.0 in let a_is : a ≡ s = is.1 in let b_is : b ≡ e = cc in rw (m_is, a_is, b_is) refl)
started_stamp _ w n s is = absurd is

module _ (plan : Nodes) (node : ℕ → Progress) (mark : ℕ → ℕ) (task : ℕ → Task) (holder : ℕ → Option ℕ) (tasks : InductiveTasks plan node mark task holder) where
  -- a leaf that a task names as started is taken, and the worker holds it
  pub started_held : (w n s : ℕ) → IsStartedAs (task w) n s → (node n ≡ Taken) × (holder n ≡ Some w)
  started_held w n s is = ((started_leaf plan node mark (task w) n s is (tasks.fits w)).1, tasks.holders.named w n (started_name (task w) n s is))

  stamp_held : (w n s : ℕ) → IsStartedAs (task w) n s → stamps node task holder n ≡ stamp_in_task w (task w)
  stamp_held w n s is = let held = started_held w n s is in rw (held.0, held.1) refl

  -- a leaf with a start has its stamp
  pub stamped : (n w s : ℕ) → HasStart node task n w s
      → (d : Option ℕ) × (stamps node task holder n ≡ Some (stamp w s d)) × ((e : ℕ) → d ≡ Some e → HasEnd node task n w s e)
  stamped n w s (inl ran) = (Some ran.0, rw ran.1 refl, λ e f. inl (let g : ran.0 ≡ e = cc in rw (← g) ran.1))
  stamped n w s (inr is) = let at = started_stamp (task w) w n s is in (at.0, stamp_held w n s is ∙ at.1, λ e f. inr (at.2 e f))

  -- and so has a leaf with an end
  pub stamped_end : (n w s e : ℕ) → HasEnd node task n w s e → stamps node task holder n ≡ Some (stamp w s (Some e))
  stamped_end n w s e (inl ran) = rw ran refl
  stamped_end n w s e (inr mine) = stamp_held w n s (rw mine (refl, refl)) ∙ ap (stamp_in_task w) mine
