-- The invariant of a core's job and stored state while no allocation has failed in a batch.
use Rattle.core_state.specs.Abstraction.{core_state_of}
use Rattle.core_model.specs.Ranges.{LeafIn}
use Rattle.core_state.specs.Code.Sizes.{HasShop, Sizes}
use Rattle.core_model.specs.Invariant.{Invariant}
use Rattle.core_model.specs.LeafSources.{HasSources}
use Rattle.core_model.specs.Operations.{IsCall}
use Rattle.core_model.specs.State.{core_job_with}
use Rattle.core_model.specs.declared.setting.Setting.{Setting}
use Rattle.core_state.specs.declared.state.State.{State as StoredState}
use Rattle.limits.specs.declared.TheConstants.{MOST_LEAVES, MOST_WORKERS}
use Rattle.sp_order.specs.Plans.{IsPlan}
use Rattle.sp_order.specs.Jobs.{JobValue, job_tree}
use Rattle.sp_order.specs.Precedence.{leaves}
use Rattle.sp_order.specs.Preorder.{nodes_of}
use Rattle.std.specs.Prelude.{Some, length, ℕ, ◌<◌, ◌≡◌, ◌≤◌, ◌*◌}

-- the invariant of a stored state for a job and a number of workers, where the leaves of work compute `work`
pub record RepInvariant (work : ℕ → ℕ) (job : JobValue) (workers : ℕ) (t : StoredState) : Type 0 where
  pub some : 0 < workers
  pub few : workers ≤ MOST_WORKERS
  pub shape : job.shape ≡ Some (job_tree job)
  pub laws : IsPlan (nodes_of (job_tree job))
  pub most : (nodes_of (job_tree job)).count < 2 * MOST_LEAVES
  pub leaves : leaves (job_tree job) ≡ length job.acts
  pub leaves_in : (n : ℕ) → LeafIn (length job.acts) ((nodes_of (job_tree job)).kind n)
  -- the number of a calling leaf is below the number of nodes
  pub calls_in : (leaf : ℕ) → IsCall (core_job_with work job workers) leaf → leaf < (nodes_of (job_tree job)).count
  -- each leaf's source is a leaf before it
  pub sources : HasSources (core_job_with work job workers)
  pub sizes : Sizes t (nodes_of (job_tree job)).count workers
  pub few_acts : length job.acts ≤ MOST_LEAVES
  pub shop : HasShop t
  pub inv : Invariant (core_job_with work job workers) (core_state_of t)

-- the same for a `Setting`
abbrev pub Represents : (ℕ → ℕ) → Setting → StoredState → Type 0
Represents work setting t = RepInvariant work setting.job setting.workers t
