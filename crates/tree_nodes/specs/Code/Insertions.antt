-- Results and intermediate states of an insertion into a tree.
use Rattle.std.specs.Prelude.{◌≡◌, ℕ, ◌+◌, ◌≤◌, Bool, true, false, List, [], ◌∷◌, ◌++◌, Result, Ok, Err, ⊤}
use Rattle.tree_nodes.specs.declared.node.Tree.{Tree}
use Rattle.tree_nodes.specs.declared.node.Tree.TheVariants.{Two', Three'}
use Rattle.tree_nodes.specs.declared.node.Split.{Split}
use Rattle.tree_nodes.specs.declared.node.Split.TheVariants.{Fits, Splits}
use Rattle.tree_nodes.specs.declared.insert.Outcome.{Outcome}
use Rattle.tree_nodes.specs.declared.insert.Outcome.TheVariants.{Found, Added, Full, OutOfMemory}
use Rattle.key_sets.specs.Keys.{with_key, has}
use Rattle.tree_nodes.specs.Nodes.{keys, depth, IsTree, keys_with_split, IsTreeWithSplit}

-- the key was absent, and `new` is `old` with it
pub record IsAdded (key : ℕ) (old new : List ℕ) : Type 0 where
  pub is : new ≡ with_key key old
  pub absent : has key old ≡ false

-- the key was present, and nothing changed
pub record IsFound (key : ℕ) (old new : List ℕ) : Type 0 where
  pub same : new ≡ old
  pub present : has key old ≡ true

-- `true`: the key was added; `false`: it was found
abbrev pub IsInserted : ℕ → List ℕ → List ℕ → Bool → Type 0
IsInserted key old new true = IsAdded key old new
IsInserted key old new false = IsFound key old new

-- the keys after each outcome; `Full` and `OutOfMemory` change nothing
abbrev pub IsOutcome : ℕ → List ℕ → List ℕ → Outcome → Type 0
IsOutcome key old new Found = IsFound key old new
IsOutcome key old new Added = IsAdded key old new
IsOutcome key old new Full = new ≡ old
IsOutcome key old new OutOfMemory = new ≡ old

-- the result for each outcome: `Ok` with whether the key is new, or `Err` for `Full` and `OutOfMemory`
abbrev pub IsAnswer : {E : Type 0} → Outcome → Result Bool E → Type 0
IsAnswer Found (Ok added) = added ≡ false
IsAnswer Added (Ok added) = added ≡ true
IsAnswer Full (Ok added) = ⊥
IsAnswer OutOfMemory (Ok added) = ⊥
IsAnswer Found (Err e) = ⊥
IsAnswer Added (Err e) = ⊥
IsAnswer Full (Err e) = ⊤
IsAnswer OutOfMemory (Err e) = ⊤

-- `P` holds if a part was split off; otherwise this says nothing
abbrev pub OnSplits : Split → Type 0 → Type 0
OnSplits Fits P = ⊤
OnSplits (Splits k right) P = P

-- from the split of a child, the resulting split of the node, and the number of boxes before and after: if the child
-- was split, at most one box is taken; if not, the node is not split, and nothing is said of the boxes
abbrev pub IsSpent : Split → Split → ℕ → ℕ → Type 0
IsSpent Fits Fits old new = ⊤
IsSpent Fits (Splits k right) old new = ⊥
IsSpent (Splits j part) split old new = old ≤ new + 1

-- whether a part was split off
abbrev pub is_split : Split → Bool
is_split Fits = false
is_split (Splits k right) = true

-- whether the root has three children, and so no room for a fourth
abbrev pub has_three_sides : Tree → Bool
has_three_sides (Three' p a k b m c) = true
has_three_sides _ = false

-- a node is split exactly if its child was and the node has three children already
abbrev pub IsSplitWhereFull : Split → Tree → Split → Type 0
IsSplitWhereFull Fits tree result = result ≡ Fits
IsSplitWhereFull (Splits k right) tree result = is_split result ≡ has_three_sides tree

-- a node whose children are trees of equal depth, where `split` was split off its first child; the next two definitions
-- say the same of the second and of the third child
abbrev pub HasSplitFirst : Split → Tree → Type 0
HasSplitFirst split (Two' p a k b m c) = IsTreeWithSplit (depth b) a split × IsTree b
HasSplitFirst split (Three' p a k b m c) =
    IsTreeWithSplit (depth b) a split × IsTree b × IsTree c × (depth c ≡ depth b)
HasSplitFirst split _ = ⊥

abbrev pub HasSplitSecond : Split → Tree → Type 0
HasSplitSecond split (Two' p a k b m c) = IsTree a × IsTreeWithSplit (depth a) b split
HasSplitSecond split (Three' p a k b m c) =
    IsTree a × IsTreeWithSplit (depth a) b split × IsTree c × (depth c ≡ depth a)
HasSplitSecond split _ = ⊥

abbrev pub HasSplitThird : Split → Tree → Type 0
HasSplitThird split (Three' p a k b m c) =
    IsTree a × IsTree b × (depth b ≡ depth a) × IsTreeWithSplit (depth a) c split
HasSplitThird split _ = ⊥

-- the keys of a node with those of `split` after its first child; the next two do the same for the second and the third
abbrev pub with_first_split : Split → Tree → List ℕ
with_first_split split (Two' p a k b m c) = keys_with_split a split ++ k ∷ keys b
with_first_split split (Three' p a k b m c) = keys_with_split a split ++ k ∷ (keys b ++ m ∷ keys c)
with_first_split split _ = []

abbrev pub with_second_split : Split → Tree → List ℕ
with_second_split split (Two' p a k b m c) = keys a ++ k ∷ keys_with_split b split
with_second_split split (Three' p a k b m c) = keys a ++ k ∷ (keys_with_split b split ++ m ∷ keys c)
with_second_split split _ = []

abbrev pub with_third_split : Split → Tree → List ℕ
with_third_split split (Three' p a k b m c) = keys a ++ k ∷ (keys b ++ m ∷ keys_with_split c split)
with_third_split split _ = []
