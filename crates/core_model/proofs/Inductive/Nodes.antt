-- What the proofs carry of the nodes and the tasks: each node against its sides, and each node with the worker
-- whose task names it.
use Rattle.std.specs.Prelude.{ℕ, ◌≡◌, ◌≢◌, ◌<◌, ◌+◌, ◌⊎◌, Bool, true, false, Option, None, Some}
use Rattle.core_model.proofs.Words.{Kind, LeafNode, SeqNode, ParNode, Nodes, IsSide, Progress, Waiting, Ready, Taken, Done, Ran, Task, is_done, names}
use Rattle.core_model.specs.Operations.{IsLeaf}
use Rattle.core_model.specs.Invariant.Tasks.{TaskFits}

-- where a node stands against its parent and its sides
pub record InductiveNodes (plan : Nodes) (node : ℕ → Progress) : Type 0 where
  pub root : node 0 ≢ Waiting
  pub below_waiting : (p n : ℕ) → IsSide plan p n → node p ≡ Waiting → node n ≡ Waiting
  pub below_ready : (p n : ℕ) → IsSide plan p n → node p ≡ Ready → node n ≡ Waiting
  pub second : (p l r : ℕ) → plan.kind p ≡ Some (SeqNode l r) → (node r ≡ Waiting) ⊎ (is_done (node l) ≡ true)
  pub below_done : (p n : ℕ) → IsSide plan p n → is_done (node p) ≡ true → is_done (node n) ≡ true
  -- what is no node waits for ever
  pub outside : (n : ℕ) → plan.kind n ≡ None → node n ≡ Waiting
  pub leaf_ran : (n leaf : ℕ) → plan.kind n ≡ Some (LeafNode leaf) → node n ≢ Done
  pub ran_leaf : (n w s e : ℕ) → node n ≡ Ran w s e → IsLeaf (plan.kind n)

-- the holder of a node is the worker whose task names it
pub record HoldersFit (task : ℕ → Task) (holder : ℕ → Option ℕ) : Type 0 where
  pub named : (w n : ℕ) → names (task w) ≡ Some n → holder n ≡ Some w
  pub holds : (w n : ℕ) → holder n ≡ Some w → names (task w) ≡ Some n

-- 1 for a done node without a holder, else 0
abbrev pub passed_if : Bool → Option ℕ → ℕ
passed_if true None = 1
passed_if true (Some w) = 0
passed_if false holder = 0

-- what holds of a taken node of this kind that has no holder
abbrev pub LeftAlone : Option Kind → (ℕ → Progress) → (ℕ → ℕ) → (ℕ → Option ℕ) → ℕ → Type 0
LeftAlone (Some (SeqNode l r)) node mark holder p =
    (node l ≢ Waiting)
    × (is_done (node l) ≡ true → holder l ≡ None → node r ≢ Waiting)
    × (is_done (node r) ≡ true → holder r ≢ None)
LeftAlone (Some (ParNode l r)) node mark holder p = (node l ≢ Waiting) × (node r ≢ Waiting) × (mark p < 2)
LeftAlone _ node mark holder p = ⊥

-- the tasks against the nodes
pub record InductiveTasks (plan : Nodes) (node : ℕ → Progress) (mark : ℕ → ℕ) (task : ℕ → Task) (holder : ℕ → Option ℕ) : Type 0 where
  pub holders : HoldersFit task holder
  pub fits : (w : ℕ) → TaskFits plan node mark (task w)
  pub alone : (p : ℕ) → node p ≡ Taken → holder p ≡ None → LeftAlone (plan.kind p) node mark holder p
  pub marks : (p l r : ℕ) → plan.kind p ≡ Some (ParNode l r) → mark p ≡ passed_if (is_done (node l)) (holder l) + passed_if (is_done (node r)) (holder r)
