-- What the choice of a turn looks up, and the choice of an idle worker.
use Rattle.batch_history.specs.Book.{flat}
use Rattle.core_state.specs.Abstraction.{book_of, state_of}
use Rattle.core_model.specs.Choice.{choice_steal, last_of}
use Rattle.core_model.specs.Settings.{HasLeaf, TaskIn, job_of}
use Rattle.core_state.specs.Code.Sizes.{HasShop, Sizes}
use Rattle.core_state.specs.WorkDue.{CanGive, work_due}
use Rattle.core_model.specs.Invariant.Statuses.{is_taken_by}
use Rattle.core_model.specs.Operations.{IsLeaf}
use Rattle.core_model.specs.Events.{HasStarted}
use Rattle.core_model.specs.State.{CoreJob, State}
use Rattle.seq_objects.specs.declared.act.Act.TheVariants.{Work}
use Rattle.core_model.specs.declared.event.Event.{Event}
use Rattle.core_model.specs.declared.event.Event.TheVariants.{Claim}
use Rattle.core_model.specs.declared.setting.Setting.{Setting}
use Rattle.core_state.specs.declared.state.State.{State as StoredState}
use Rattle.core_model.specs.declared.task.Task.TheVariants.{Started}
use Rattle.limits.specs.declared.TheConstants.{MOST_WORKERS}
use Rattle.seq_objects.specs.Pairs.{AreDistinct}
use Rattle.std.specs.Prelude.{List, Option, Some, [], length, map, true, ℕ, ◌+◌, ◌-◌, ◌<◌, ◌^◌, ◌∷◌, ◌≡◌, ◌≤◌}

-- the preconditions of the lookups that choose a turn
pub record CanChoose (setting : Setting) (t : StoredState) : Type 0 where
  pub few : setting.workers ≤ MOST_WORKERS
  pub sizes : Sizes t (job_of setting).plan.count setting.workers
  pub tasks_in : (w : ℕ) → TaskIn (job_of setting).plan.count ((state_of t).task w)
  pub at_leaf : (w n start : ℕ) → (state_of t).task w ≡ Started n start → IsLeaf ((job_of setting).plan.kind n)
  -- a worker whose call is taken has started a leaf
  pub owed : (w : ℕ) → is_taken_by (state_of t).hold w ≡ true → HasLeaf (job_of setting).plan ((state_of t).task w)
  -- receipts are looked up in the book of the shop, in which no leaf occurs twice
  pub shop : HasShop t
  pub leaves : AreDistinct (map (λ entry. entry.leaf) (flat (book_of t.shop)))
  pub few_batches : length (book_of t.shop) < 2 ^ 32
  pub few_entries : length (flat (book_of t.shop)) < 2 ^ 32

-- the choice of idle worker `w`: its own newest node, else a steal; the last argument is its own list
abbrev pub claim_choice : ℕ → (ℕ → List ℕ) → ℕ → List ℕ → Option Event
claim_choice workers ready w [] = choice_steal ready workers (w + 1) (workers - 1)
claim_choice workers ready w (n ∷ ns) = Some (Claim (last_of n ns))

-- the worker has started this leaf, whose act is work on this number
abbrev pub IsAtWork : CoreJob → State → ℕ → ℕ → ℕ → Type 0
IsAtWork job s w leaf steps = ((n : ℕ) × HasStarted job s w n leaf) × (job.act leaf ≡ Work steps)

-- if work is due for the worker, its value can be had
abbrev pub CanGiveDue : {V : Type 0} → (V → ℕ → Type 0) → V → Setting → StoredState → ℕ → Type 0
CanGiveDue has value setting t w =
    CanGive has value (work_due (job_of setting) (state_of t).book ((state_of t).task w) ((state_of t).call w))
