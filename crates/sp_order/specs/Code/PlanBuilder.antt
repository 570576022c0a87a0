-- How a plan is built: node by node in preorder, with a stack of the sides still to be visited.
use Rattle.std.specs.Prelude.{◌≡◌, ℕ, ◌+◌, ◌<◌, ◌≤◌, List, [], ◌∷◌, ◌++◌, length, slice_set}
use Rattle.std.specs.List.{All}
use Rattle.limits.specs.declared.TheConstants.{MOST_LEAVES}
use Rattle.sp_order.specs.declared.node.Kind.{Kind}
use Rattle.sp_order.specs.declared.node.Kind.TheVariants.{SeqNode, ParNode}
use Rattle.sp_order.specs.declared.node.Move.{Move}
use Rattle.sp_order.specs.declared.node.Move.TheVariants.{Root, OpenSecond, FinishParent, Arrive}
use Rattle.sp_order.specs.declared.plan.builder.PlanBuilder.{PlanBuilder}
use Rattle.sp_order.specs.declared.plan.builder.Pending.{Pending}
use Rattle.sp_order.specs.Precedence.{Tree, tree_of, leaves}
use Rattle.sp_order.specs.Preorder.{kinds_from, moves_from, leaf_nodes_from}

-- the three lists that a builder fills: the kinds of the nodes, their moves, and the nodes of the leaves
pub record Lists : Type 0 where
  pub kinds : List Kind
  pub moves : List Move
  pub leaf_nodes : List ℕ

-- the lists filled so far
abbrev pub lists_in : PlanBuilder → Lists
lists_in builder = record {
  kinds = builder.kinds.items;
  moves = builder.moves.items;
  leaf_nodes = builder.leaf_nodes.items;
}

-- the complete lists of a tree
abbrev pub lists_of : Tree → Lists
lists_of tree = record { kinds = kinds_from 0 0 tree; moves = moves_from 0 Root tree; leaf_nodes = leaf_nodes_from 0 tree }

-- The kinds, where the node with this move is recorded as the right side of its parent. The left side of a parallel
-- block is recorded there too, until the right one overwrites it.
abbrev pub with_side : List Kind → Move → ℕ → List Kind
with_side kinds Root node = kinds
with_side kinds (OpenSecond parent) node = kinds
with_side kinds (FinishParent parent) node = slice_set kinds parent (SeqNode (parent + 1) node)
with_side kinds (Arrive parent) node = slice_set kinds parent (ParNode (parent + 1) node)

-- the parent, if there is one, has a number below `node`
abbrev pub HasParentBelow : ℕ → Move → Type 0
HasParentBelow node Root = Unit {0}
HasParentBelow node (OpenSecond parent) = parent < node
HasParentBelow node (FinishParent parent) = parent < node
HasParentBelow node (Arrive parent) = parent < node

-- the lists, extended by those of a whole tree whose top has this move and is recorded at its parent
abbrev pub with_tree : Tree → Move → Lists → Lists
with_tree tree after lists = record {
  kinds = with_side lists.kinds after (length lists.kinds) ++ kinds_from (length lists.kinds) (length lists.leaf_nodes) tree;
  moves = lists.moves ++ moves_from (length lists.kinds) after tree;
  leaf_nodes = lists.leaf_nodes ++ leaf_nodes_from (length lists.kinds) tree;
}

-- the lists, extended by those of a pending side
abbrev pub with_pending : Pending → Lists → Lists
with_pending pending lists = with_tree (tree_of pending.shape.now) pending.after lists

-- the lists, extended by those of all sides on the stack, top first; the top is the last item of the stack
abbrev pub with_all : List Pending → Lists → Lists
with_all [] lists = lists
with_all (pending ∷ above) lists = with_pending pending (with_all above lists)

-- the parents of all sides on the stack are listed already
abbrev pub HaveParents : List Pending → Lists → Type 0
HaveParents stack lists = All (λ pending. HasParentBelow (length lists.kinds) pending.after) stack

-- the lists are complete for this tree, which has at most `MOST_LEAVES` leaves
pub record AreListsOf (lists : Lists) (tree : Tree) : Type 0 where
  pub lists_are : lists ≡ lists_of tree
  pub most : leaves tree ≤ MOST_LEAVES
