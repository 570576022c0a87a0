-- The invariant of the nodes' progress.
use Rattle.core_model.specs.Operations.{IsLeaf}
use Rattle.core_model.specs.Tasks.{is_done}
use Rattle.core_model.specs.Words.{Progress, Done, Ran, Ready, Waiting, IsSide, IsUnder, Nodes, SeqNode}
use Rattle.std.specs.Prelude.{None, Some, true, ℕ, ◌≡◌, ◌≢◌, ◌⊎◌}

-- node `n` is a proper descendant of `top`
abbrev pub IsDescendant : Nodes → ℕ → ℕ → Type 0
IsDescendant plan top n = (side : ℕ) × IsSide plan top side × IsUnder plan side n

-- The progress of the nodes.
pub record NodesInvariant (plan : Nodes) (node : ℕ → Progress) : Type 0 where
  -- the root is not waiting
  pub root : node 0 ≢ Waiting
  -- the descendants of a waiting or ready node are waiting
  pub before_run : (p n : ℕ) → IsDescendant plan p n → (node p ≡ Waiting) ⊎ (node p ≡ Ready) → node n ≡ Waiting
  -- the right side of a series waits until the left side is done
  pub second : (p l r : ℕ) → plan.kind p ≡ Some (SeqNode l r) → (node r ≡ Waiting) ⊎ (is_done (node l) ≡ true)
  -- the descendants of a done node are done
  pub below_done : (p n : ℕ) → IsDescendant plan p n → is_done (node p) ≡ true → is_done (node n) ≡ true
  -- leaves and only leaves are done as `Ran`, with their worker, start and end
  pub leaf_ran : (n : ℕ) → IsLeaf (plan.kind n) → node n ≢ Done
  pub ran_leaf : (n w s e : ℕ) → node n ≡ Ran w s e → IsLeaf (plan.kind n)
  -- a number that is no node's waits for ever
  pub outside : (n : ℕ) → plan.kind n ≡ None → node n ≡ Waiting
