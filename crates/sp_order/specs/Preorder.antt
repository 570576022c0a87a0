-- The nodes of a tree in preorder: each node, then those of its left side, then those of its right side.
use Rattle.std.specs.Prelude.{ℕ, ◌+◌, List, [], ◌∷◌, ◌++◌, slice_get, slice_index, slice_index_or}
use Rattle.sp_order.specs.declared.node.Kind.{Kind}
use Rattle.sp_order.specs.declared.node.Kind.TheVariants.{LeafNode, SeqNode, ParNode}
use Rattle.sp_order.specs.declared.node.Move.{Move}
use Rattle.sp_order.specs.declared.node.Move.TheVariants.{Root, OpenSecond, FinishParent, Arrive}
use Rattle.sp_order.specs.Precedence.{Tree, leaf, seq, par, leaves}
use Rattle.sp_order.specs.Plans.{Nodes}
use Rattle.sp_order.specs.PlanOf.{node_count}

-- the kinds of the nodes, numbered from `node` on, with the leaves numbered from `first` on
abbrev pub kinds_from : ℕ → ℕ → Tree → List Kind
kinds_from node first leaf = LeafNode first ∷ []
kinds_from node first (seq left right) =
    SeqNode (node + 1) (node + 1 + node_count left)
    ∷ (kinds_from (node + 1) first left ++ kinds_from (node + 1 + node_count left) (first + leaves left) right)
kinds_from node first (par left right) =
    ParNode (node + 1) (node + 1 + node_count left)
    ∷ (kinds_from (node + 1) first left ++ kinds_from (node + 1 + node_count left) (first + leaves left) right)

-- the moves of the nodes, numbered from `node` on, where the top has the move `after`
abbrev pub moves_from : ℕ → Move → Tree → List Move
moves_from node after leaf = after ∷ []
moves_from node after (seq left right) =
    after ∷ (moves_from (node + 1) (OpenSecond node) left ++ moves_from (node + 1 + node_count left) (FinishParent node) right)
moves_from node after (par left right) =
    after ∷ (moves_from (node + 1) (Arrive node) left ++ moves_from (node + 1 + node_count left) (Arrive node) right)

-- the nodes of the leaves, from left to right
abbrev pub leaf_nodes_from : ℕ → Tree → List ℕ
leaf_nodes_from node leaf = node ∷ []
leaf_nodes_from node (seq left right) =
    leaf_nodes_from (node + 1) left ++ leaf_nodes_from (node + 1 + node_count left) right
leaf_nodes_from node (par left right) =
    leaf_nodes_from (node + 1) left ++ leaf_nodes_from (node + 1 + node_count left) right

-- the plan of a tree
unfoldable pub nodes_of : Tree → Nodes
nodes_of tree = record {
  count = node_count tree;
  kind = λ n. slice_get (kinds_from 0 0 tree) n;
  after = λ n. slice_index_or (moves_from 0 Root tree) n Root;
  node_of = λ leaf. slice_index (leaf_nodes_from 0 tree) leaf;
}
