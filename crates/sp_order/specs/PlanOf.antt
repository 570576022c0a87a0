-- When a plan stands for a tree.
use Rattle.std.specs.Prelude.{◌≡◌, ℕ, ◌+◌, ◌≤◌, None, Some}
use Rattle.sp_order.specs.declared.node.Kind.TheVariants.{LeafNode, SeqNode, ParNode}
use Rattle.sp_order.specs.declared.node.Move.{Move}
use Rattle.sp_order.specs.declared.node.Move.TheVariants.{Root, OpenSecond, FinishParent, Arrive}
use Rattle.sp_order.specs.Precedence.{Tree, leaf, seq, par, leaves}
use Rattle.sp_order.specs.Plans.{Nodes}

-- the number of nodes of a tree
abbrev pub node_count : Tree → ℕ
node_count leaf = 1
node_count (seq left right) = node_count left + node_count right + 1
node_count (par left right) = node_count left + node_count right + 1

-- The tree occurs in the plan with its top at `node`, its leaves numbered from `first` on, and `after` as the move of
-- its top. Its left side occurs at the next node, and its right side after the nodes and leaves of the left one.
abbrev pub OccursAt : Nodes → Tree → ℕ → ℕ → Move → Type 0
OccursAt plan leaf node first after =
    (plan.kind node ≡ Some (LeafNode first)) × (plan.after node ≡ after) × (plan.node_of first ≡ node)
OccursAt plan (seq left right) node first after =
    (plan.kind node ≡ Some (SeqNode (node + 1) (node + 1 + node_count left)))
    × (plan.after node ≡ after)
    × OccursAt plan left (node + 1) first (OpenSecond node)
    × OccursAt plan right (node + 1 + node_count left) (first + leaves left) (FinishParent node)
OccursAt plan (par left right) node first after =
    (plan.kind node ≡ Some (ParNode (node + 1) (node + 1 + node_count left)))
    × (plan.after node ≡ after)
    × OccursAt plan left (node + 1) first (Arrive node)
    × OccursAt plan right (node + 1 + node_count left) (first + leaves left) (Arrive node)

-- the whole tree occurs at node 0, and there are no other nodes
pub record IsPlanOf (plan : Nodes) (tree : Tree) : Type 0 where
  pub stands : OccursAt plan tree 0 0 Root
  pub count : plan.count ≡ node_count tree
  pub no_kind : (n : ℕ) → node_count tree ≤ n → plan.kind n ≡ None
  pub no_move : (n : ℕ) → node_count tree ≤ n → plan.after n ≡ Root
