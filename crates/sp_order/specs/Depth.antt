-- The depth of a shape: the number of blocks on the longest path from its top to a leaf.
use Rattle.std.specs.Prelude.{ℕ, ◌+◌, max, Option, None, Some}
use Rattle.sp_order.specs.Precedence.{Tree, leaf, seq, par}

-- 0 for a leaf, else one more than the deeper side
abbrev pub tree_depth : Tree → ℕ
tree_depth leaf = 0
tree_depth (seq left right) = 1 + max (tree_depth left) (tree_depth right)
tree_depth (par left right) = 1 + max (tree_depth left) (tree_depth right)

-- the depth of a job's shape, or 0 for a job without leaves
abbrev pub depth_of : Option Tree → ℕ
depth_of None = 0
depth_of (Some tree) = tree_depth tree
