-- The value of a plan: the tree that is read from the kinds of its nodes.
use Rattle.std.specs.Prelude.{List, [], ◌∷◌}
use Rattle.sp_order.specs.declared.node.Kind.{Kind}
use Rattle.sp_order.specs.declared.node.Kind.TheVariants.{LeafNode, SeqNode, ParNode}
use Rattle.sp_order.specs.Precedence.{Tree, leaf, seq, par}
use Rattle.sp_order.specs.TreeEncoding.{top}

-- the list with its first two trees joined to one block; empty where there are fewer than two
abbrev pub with_block : (Tree → Tree → Tree) → List Tree → List Tree
with_block join (left ∷ right ∷ more) = join left right ∷ more
with_block join (tree ∷ []) = []
with_block join [] = []

-- the trees whose nodes in preorder have these kinds, one tree after another
abbrev pub trees_of_kinds : List Kind → List Tree
trees_of_kinds [] = []
trees_of_kinds (LeafNode first ∷ more) = leaf ∷ trees_of_kinds more
trees_of_kinds (SeqNode left right ∷ more) = with_block seq (trees_of_kinds more)
trees_of_kinds (ParNode left right ∷ more) = with_block par (trees_of_kinds more)

-- the tree whose nodes in preorder have these kinds
abbrev pub tree_of_kinds : List Kind → Tree
tree_of_kinds kinds = top (trees_of_kinds kinds)
