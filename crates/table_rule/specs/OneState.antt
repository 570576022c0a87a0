-- When two states agree in all that a table keeps of a state.
use Rattle.std.specs.Prelude.{ℕ, ◌≡◌, ◌<◌, Some}
use Rattle.core_model.specs.State.{CoreJob, State}
use Rattle.core_model.specs.Invariant.Values.{IsKept}
use Rattle.core_model.specs.Words.{LeafNode}

-- The two states agree in every field, except that marks are compared only below the node count, and values only at the
-- leaves whose value is kept: the value word of another leaf says nothing.
pub record AreOne (job : CoreJob) (one two : State) : Type 0 where
  pub node : (n : ℕ) → one.node n ≡ two.node n
  pub mark : (n : ℕ) → n < job.plan.count → one.mark n ≡ two.mark n
  pub value : (n leaf : ℕ) → job.plan.kind n ≡ Some (LeafNode leaf) → IsKept one.node one.task n → one.value n ≡ two.value n
  pub task : (w : ℕ) → one.task w ≡ two.task w
  pub status : (w : ℕ) → one.status w ≡ two.status w
  pub call : (w : ℕ) → one.call w ≡ two.call w
  pub hold : one.hold ≡ two.hold
  pub tick : one.tick ≡ two.tick
  pub book : one.book ≡ two.book
  pub objects : one.objects ≡ two.objects
