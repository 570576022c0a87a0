-- The sources of leaves in the model of a job: the leaves whose values are the arguments of later calls, or the numbers
-- of later leaves of work.
use Rattle.core_model.specs.Operations.{IsCall, op_in, value_under}
use Rattle.core_model.specs.State.{CoreJob, State}
use Rattle.core_model.specs.Words.{IsBySeries, LeafNode, Ran}
use Rattle.std.specs.Prelude.{None, Some, ℕ, ◌≡◌}

-- `source` is a leaf at a node of the plan, by a series this node is before node `n`, that of `leaf`; and where `leaf`
-- works, `source` calls
pub record IsSourceAt (job : CoreJob) (n leaf source : ℕ) : Type 0 where
  pub calls : op_in (job.act leaf) ≡ None → IsCall job source
  pub stands : job.plan.kind (job.plan.node_of source) ≡ Some (LeafNode source)
  pub before : IsBySeries job.plan (job.plan.node_of source) n

-- each source of a leaf is a leaf whose value it may take, and by a series its node is before the leaf's
abbrev pub HasSources : CoreJob → Type 0
HasSources job =
    (n leaf source : ℕ) → job.plan.kind n ≡ Some (LeafNode leaf) → job.source leaf ≡ Some source → IsSourceAt job n leaf source

-- The leaf has its value: it is done, and its node has the value that the leaf has under the book.
pub record HasItsValue (job : CoreJob) (s : State) (leaf : ℕ) : Type 0 where
  pub worker : ℕ
  pub start : ℕ
  pub end : ℕ
  pub ran : s.node (job.plan.node_of leaf) ≡ Ran worker start end
  pub value : ℕ
  pub kept : s.value (job.plan.node_of leaf) ≡ Some value
  pub under : value_under job s.book leaf ≡ Some value
