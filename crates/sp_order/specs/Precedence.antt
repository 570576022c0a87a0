-- Series-parallel shapes, and which leaf is before which.
use Rattle.std.specs.Prelude.{ℕ, ◌+◌, ◌<◌, ◌≤◌, ◌⊎◌, Option, None, Some}
use Rattle.sp_order.specs.declared.shape.Shape.{Shape, Leaf, Seq', Par'}

-- a shape, without its addresses in memory
pub data Tree : Type 0 where
  leaf : Tree
  seq : Tree → Tree → Tree
  par : Tree → Tree → Tree

abbrev pub tree_of : Shape → Tree
tree_of Leaf = leaf
tree_of (Seq' _ left _ right) = seq (tree_of left) (tree_of right)
tree_of (Par' _ left _ right) = par (tree_of left) (tree_of right)

-- the number of leaves of a tree
abbrev pub leaves : Tree → ℕ
leaves leaf = 1
leaves (seq left right) = leaves left + leaves right
leaves (par left right) = leaves left + leaves right

abbrev pub leaf_count : Option Tree → ℕ
leaf_count None = 0
leaf_count (Some tree) = leaves tree

-- `u` is a leaf of the tree, whose leaves are numbered from `first` on, from left to right
abbrev pub IsLeafOf : Tree → ℕ → ℕ → Type 0
IsLeafOf tree first u = (first ≤ u) × (u < first + leaves tree)

-- Leaf `u` is before leaf `v`, in a tree whose leaves are numbered from `first` on: one side of the tree has it so, or
-- the tree is a series with `u` on its left side and `v` on its right side.
abbrev pub IsBeforeFrom : ℕ → Tree → ℕ → ℕ → Type 0
IsBeforeFrom first leaf u v = ⊥
IsBeforeFrom first (par left right) u v =
    IsBeforeFrom first left u v ⊎ IsBeforeFrom (first + leaves left) right u v
IsBeforeFrom first (seq left right) u v =
    IsBeforeFrom first left u v
    ⊎ (IsBeforeFrom (first + leaves left) right u v
    ⊎ (IsLeafOf left first u × IsLeafOf right (first + leaves left) v))

-- leaf `u` of a job is before its leaf `v`
abbrev pub IsBefore : Option Tree → ℕ → ℕ → Type 0
IsBefore None u v = ⊥
IsBefore (Some tree) u v = IsBeforeFrom 0 tree u v
