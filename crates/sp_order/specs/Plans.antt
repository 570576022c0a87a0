-- The nodes of a plan: their kinds, what follows them, and which are under which.
use Rattle.std.specs.Prelude.{◌≡◌, ◌≢◌, ℕ, ◌<◌, ◌≤◌, ◌⊎◌, Option, None, Some}
use Rattle.sp_order.specs.declared.node.Kind.{Kind}
use Rattle.sp_order.specs.declared.node.Kind.TheVariants.{LeafNode, SeqNode, ParNode}
use Rattle.sp_order.specs.declared.node.Move.{Move}
use Rattle.sp_order.specs.declared.node.Move.TheVariants.{Root, OpenSecond, FinishParent, Arrive}

-- a plan, as functions of node numbers
pub record Nodes : Type 0 where
  -- the number of nodes, which are numbered from 0
  pub count : ℕ
  -- the kind of a node, or `None` where no node has the number
  pub kind : ℕ → Option Kind
  -- what follows a node, or `Root` where no node has the number
  pub after : ℕ → Move
  -- the node of a leaf, by its number among the leaves
  pub node_of : ℕ → ℕ

-- the parent of a node that has this move
abbrev pub parent_of : Move → Option ℕ
parent_of Root = None
parent_of (OpenSecond parent) = Some parent
parent_of (FinishParent parent) = Some parent
parent_of (Arrive parent) = Some parent

-- the node has a move that names this parent
abbrev pub IsSide : Nodes → ℕ → ℕ → Type 0
IsSide plan parent node = parent_of (plan.after node) ≡ Some parent

-- a node of this kind names the node as one of its sides
abbrev pub HasSide : Option Kind → ℕ → Type 0
HasSide None node = ⊥
HasSide (Some (LeafNode leaf)) node = ⊥
HasSide (Some (SeqNode left right)) node = (node ≡ left) ⊎ (node ≡ right)
HasSide (Some (ParNode left right)) node = (node ≡ left) ⊎ (node ≡ right)

-- the second node is the first one or a descendant of it
pub data IsUnder (plan : Nodes) : ℕ → ℕ → Type 0 where
  itself : {top : ℕ} → IsUnder plan top top
  one_below : {top parent node : ℕ} → IsUnder plan top parent → IsSide plan parent node → IsUnder plan top node

-- some series has the first node under its left side and the second under its right side
pub record IsBySeries (plan : Nodes) (first second : ℕ) : Type 0 where
  pub parent : ℕ
  pub left : ℕ
  pub right : ℕ
  pub series : plan.kind parent ≡ Some (SeqNode left right)
  pub under_left : IsUnder plan left first
  pub under_right : IsUnder plan right second

-- the local facts of a plan
pub record IsPlan (plan : Nodes) : Type 0 where
  -- node 0 has no parent, and no other node is without one
  pub root : plan.after 0 ≡ Root
  pub one_root : (n : ℕ) → plan.kind n ≢ None → plan.after n ≡ Root → n ≡ 0
  -- the sides that a block names have the moves of their places, and those of a parallel block differ
  pub left_of_seq : (p left right : ℕ) → plan.kind p ≡ Some (SeqNode left right) → plan.after left ≡ OpenSecond p
  pub right_of_seq : (p left right : ℕ) → plan.kind p ≡ Some (SeqNode left right) → plan.after right ≡ FinishParent p
  pub left_of_par : (p left right : ℕ) → plan.kind p ≡ Some (ParNode left right) → plan.after left ≡ Arrive p
  pub right_of_par : (p left right : ℕ) → plan.kind p ≡ Some (ParNode left right) → plan.after right ≡ Arrive p
  pub apart : (p left right : ℕ) → plan.kind p ≡ Some (ParNode left right) → left ≢ right
  -- whatever has a parent is a node, its parent names it, and its number is above its parent's
  pub inside : (p n : ℕ) → IsSide plan p n → plan.kind n ≢ None
  pub has_side : (p n : ℕ) → IsSide plan p n → HasSide (plan.kind p) n
  pub deeper : (p n : ℕ) → IsSide plan p n → p < n
  -- a leaf has one node
  pub one_node : (n leaf : ℕ) → plan.kind n ≡ Some (LeafNode leaf) → n ≡ plan.node_of leaf
  -- the numbers of nodes are below the count
  pub within : (n : ℕ) → plan.kind n ≢ None → n < plan.count
  pub outside : (n : ℕ) → plan.count ≤ n → plan.kind n ≡ None
