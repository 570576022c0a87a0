-- The keys of a 2-3 tree, and its shape.
use Rattle.std.specs.Prelude.{◌≡◌, ℕ, ◌+◌, ◌<◌, ◌≤◌, ◌^◌, List, [], ◌∷◌, ◌++◌, length, ⊤}
use Rattle.std.specs.List.{AllByRecursion}
use Rattle.tree_nodes.specs.declared.node.Tree.{Tree}
use Rattle.tree_nodes.specs.declared.node.Tree.TheVariants.{Empty, Leaf, Underfull', Two', Three'}
use Rattle.tree_nodes.specs.declared.node.Rooted.{Rooted}
use Rattle.tree_nodes.specs.declared.node.Split.{Split}
use Rattle.tree_nodes.specs.declared.node.Split.TheVariants.{Fits, Splits}
use Rattle.key_sets.specs.Keys.{StrictlyAscends}

-- the most keys of a leaf
abbrev pub room : ℕ
room = 256

-- the keys from left to right
abbrev pub keys : Tree → List ℕ
keys Empty = []
keys (Leaf b) = b.value.items
keys (Underfull' p a k b m c) = keys a
keys (Two' p a k b m c) = keys a ++ k ∷ keys b
keys (Three' p a k b m c) = keys a ++ k ∷ (keys b ++ m ∷ keys c)

-- the number of node levels above the leaves, along the left edge
abbrev pub depth : Tree → ℕ
depth (Underfull' p a k b m c) = depth a + 1
depth (Two' p a k b m c) = depth a + 1
depth (Three' p a k b m c) = depth a + 1
depth _ = 0

-- balanced: each node has two or three children, which are trees of equal depth, and each leaf has at most `room` keys
abbrev pub IsTree : Tree → Type 0
IsTree Empty = ⊤
IsTree (Leaf b) = length b.value.items ≤ room
IsTree (Underfull' p a k b m c) = ⊥
IsTree (Two' p a k b m c) = IsTree a × IsTree b × (depth b ≡ depth a)
IsTree (Three' p a k b m c) = IsTree a × IsTree b × IsTree c × (depth b ≡ depth a) × (depth c ≡ depth a)

-- a balanced tree whose keys strictly ascend and are below 2 ^ 32
pub record IsSet (root : Tree) : Type 0 where
  pub tree : IsTree root
  pub ascends : StrictlyAscends (keys root)
  pub small : AllByRecursion (λ k. k < 2 ^ 32) (keys root)

-- `IsSet`, and the stored height is the tree's depth
pub record IsRootedSet (root : Rooted) : Type 0 where
  pub set : IsSet root.tree
  pub height_is : root.height ≡ depth root.tree

-- a balanced tree, and the stored height is its depth
pub record IsRooted (rooted : Rooted) : Type 0 where
  pub tree_is : IsTree rooted.tree
  pub height_is : rooted.height ≡ depth rooted.tree

-- the keys of a tree, and after them those of the part split off it
abbrev pub keys_with_split : Tree → Split → List ℕ
keys_with_split tree Fits = keys tree
keys_with_split tree (Splits k right) = keys tree ++ k ∷ keys right

-- a balanced tree of depth `d`, and so is the part split off it, if any
abbrev pub IsTreeWithSplit : ℕ → Tree → Split → Type 0
IsTreeWithSplit d tree Fits = IsTree tree × (depth tree ≡ d)
IsTreeWithSplit d tree (Splits k right) = IsTree tree × IsTree right × (depth tree ≡ d) × (depth right ≡ d)

-- a balanced tree, except that the root may be underfull, with a single child
abbrev pub IsLoose : Tree → Type 0
IsLoose (Underfull' p a k b m c) = IsTree a
IsLoose tree = IsTree tree

-- the root has one or two children
abbrev pub IsNarrow : Tree → Type 0
IsNarrow (Underfull' p a k b m c) = ⊤
IsNarrow (Two' p a k b m c) = ⊤
IsNarrow _ = ⊥

-- the root has three children
abbrev pub IsWide : Tree → Type 0
IsWide (Three' p a k b m c) = ⊤
IsWide _ = ⊥

-- the tree is empty or a single leaf
abbrev pub IsLeaf : Tree → Type 0
IsLeaf Empty = ⊤
IsLeaf (Leaf b) = ⊤
IsLeaf _ = ⊥
