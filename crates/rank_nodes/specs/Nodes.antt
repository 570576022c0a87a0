-- The entries of a 2-3 tree, its shape, and its sizes.
use Rattle.std.specs.Prelude.{◌≡◌, ℕ, ◌+◌, ◌<◌, ◌≤◌, ◌^◌, List, [], ◌∷◌, ◌++◌, length, ⊤}
use Rattle.std.specs.List.{AllByRecursion}
use Rattle.rank_nodes.specs.declared.entry.Entry.{Entry}
use Rattle.rank_nodes.specs.declared.node.Tree.{Tree}
use Rattle.rank_nodes.specs.declared.node.Tree.TheVariants.{Empty, Leaf, Underfull', Two', Three'}
use Rattle.rank_nodes.specs.declared.node.Rooted.{Rooted}
use Rattle.rank_nodes.specs.declared.node.Split.{Split}
use Rattle.rank_nodes.specs.declared.node.Split.TheVariants.{Fits, Splits}
use Rattle.rank_nodes.specs.Maps.{Ascends}

-- the most entries of a leaf
abbrev pub room : ℕ
room = 64

-- the entries from left to right
abbrev pub entries : Tree → List Entry
entries Empty = []
entries (Leaf b) = b.value.items
entries (Underfull' p size a k b m c) = entries a
entries (Two' p size a k b m c) = entries a ++ k ∷ entries b
entries (Three' p size a k b m c) = entries a ++ k ∷ (entries b ++ m ∷ entries c)

-- the number of node levels above the leaves, along the left edge
abbrev pub depth : Tree → ℕ
depth (Underfull' p size a k b m c) = depth a + 1
depth (Two' p size a k b m c) = depth a + 1
depth (Three' p size a k b m c) = depth a + 1
depth _ = 0

-- the number of entries, summed over the children: it does not read the stored sizes
abbrev pub count : Tree → ℕ
count Empty = 0
count (Leaf b) = length b.value.items
count (Underfull' p size a k b m c) = count a
count (Two' p size a k b m c) = count a + 1 + count b
count (Three' p size a k b m c) = count a + 1 + count b + 1 + count c

-- balanced, with right sizes: each node has two or three children, which are trees of equal depth, and stores the
-- number of its entries, and each leaf has at most `room` entries
abbrev pub IsTree : Tree → Type 0
IsTree Empty = ⊤
IsTree (Leaf b) = length b.value.items ≤ room
IsTree (Underfull' p size a k b m c) = ⊥
IsTree (Two' p size a k b m c) = IsTree a × IsTree b × (depth b ≡ depth a) × (size ≡ count a + 1 + count b)
IsTree (Three' p size a k b m c) =
    IsTree a × IsTree b × IsTree c × (depth b ≡ depth a) × (depth c ≡ depth a)
    × (size ≡ count a + 1 + count b + 1 + count c)

-- a tree whose keys strictly ascend and are below 2 ^ 32
pub record IsMap (root : Tree) : Type 0 where
  pub tree : IsTree root
  pub ascends : Ascends (entries root)
  pub small : AllByRecursion (λ e. e.key < 2 ^ 32) (entries root)

-- `IsMap`, and the stored height is the tree's depth
pub record IsRootedMap (root : Rooted) : Type 0 where
  pub is_map : IsMap root.tree
  pub height_is : root.height ≡ depth root.tree

-- a tree (`IsTree`), and the stored height is its depth
pub record IsRooted (rooted : Rooted) : Type 0 where
  pub tree_is : IsTree rooted.tree
  pub height_is : rooted.height ≡ depth rooted.tree

-- the entries of a tree, and after them those of the part split off it
abbrev pub with_split : Tree → Split → List Entry
with_split tree Fits = entries tree
with_split tree (Splits k right) = entries tree ++ k ∷ entries right

-- the number of these entries
abbrev pub split_count : Tree → Split → ℕ
split_count tree Fits = count tree
split_count tree (Splits k right) = count tree + 1 + count right

-- a tree of depth `d`, and so is the part split off it, if any
abbrev pub IsTreeWithSplit : ℕ → Tree → Split → Type 0
IsTreeWithSplit d tree Fits = IsTree tree × (depth tree ≡ d)
IsTreeWithSplit d tree (Splits k right) = IsTree tree × IsTree right × (depth tree ≡ d) × (depth right ≡ d)

-- a tree, except that the root may be underfull, with a single child
abbrev pub IsLoose : Tree → Type 0
IsLoose (Underfull' p size a k b m c) = IsTree a
IsLoose tree = IsTree tree

-- the root has one or two children
abbrev pub IsNarrow : Tree → Type 0
IsNarrow (Underfull' p size a k b m c) = ⊤
IsNarrow (Two' p size a k b m c) = ⊤
IsNarrow _ = ⊥

-- the root has three children
abbrev pub IsWide : Tree → Type 0
IsWide (Three' p size a k b m c) = ⊤
IsWide _ = ⊥

-- the tree is empty or a single leaf
abbrev pub IsLeaf : Tree → Type 0
IsLeaf Empty = ⊤
IsLeaf (Leaf b) = ⊤
IsLeaf _ = ⊥
