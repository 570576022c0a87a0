-- Results and intermediate states of an insertion into a tree.
use Rattle.std.specs.Prelude.{◌≡◌, ℕ, ◌+◌, ◌≤◌, List, [], ◌∷◌, ◌++◌, Result, Ok, Err, Some, None, ⊤}
use Rattle.std.specs.declared.option.Option.{Option}
use Rattle.rank_nodes.specs.declared.entry.Entry.{Entry}
use Rattle.rank_nodes.specs.declared.node.Tree.{Tree}
use Rattle.rank_nodes.specs.declared.node.Tree.TheVariants.{Underfull', Two', Three'}
use Rattle.rank_nodes.specs.declared.node.Split.{Split}
use Rattle.rank_nodes.specs.declared.node.Split.TheVariants.{Fits, Splits}
use Rattle.rank_nodes.specs.declared.insert.Outcome.{Outcome}
use Rattle.rank_nodes.specs.declared.insert.Outcome.TheVariants.{Replaced, Added, Full, OutOfMemory}
use Rattle.rank_nodes.specs.Maps.{value_at, with_entry}
use Rattle.rank_nodes.specs.Nodes.{entries, depth, count, IsTree, with_split, split_count, IsTreeWithSplit}

-- the key was given the value, and the answer is the value it had, if any
pub record IsPut (key val : ℕ) (old new : List Entry) (answer : Option ℕ) : Type 0 where
  pub is : new ≡ with_entry key val old
  pub answer_is : answer ≡ value_at key old

-- the entries after each outcome; `Full` and `OutOfMemory` change nothing
abbrev pub IsOutcome : ℕ → ℕ → List Entry → List Entry → Outcome → Type 0
IsOutcome key val old new (Replaced was) = IsPut key val old new (Some was)
IsOutcome key val old new Added = IsPut key val old new None
IsOutcome key val old new Full = new ≡ old
IsOutcome key val old new OutOfMemory = new ≡ old

-- the number of new entries
abbrev pub added_by : Outcome → ℕ
added_by (Replaced was) = 0
added_by Added = 1
added_by Full = 0
added_by OutOfMemory = 0

-- the result for each outcome: `Ok` with the replaced value, if any, or `Err` for `Full` and `OutOfMemory`
abbrev pub IsAnswer : {E : Type 0} → Outcome → Result (Option ℕ) E → Type 0
IsAnswer (Replaced was) (Ok answer) = answer ≡ Some was
IsAnswer Added (Ok answer) = answer ≡ None
IsAnswer Full (Ok answer) = ⊥
IsAnswer OutOfMemory (Ok answer) = ⊥
IsAnswer (Replaced was) (Err e) = ⊥
IsAnswer Added (Err e) = ⊥
IsAnswer Full (Err e) = ⊤
IsAnswer OutOfMemory (Err e) = ⊤

-- `P` holds if a part was split off; otherwise this says nothing
abbrev pub OnSplits : Split → Type 0 → Type 0
OnSplits Fits P = ⊤
OnSplits (Splits k right) P = P

-- from the split of a child, the resulting split of the node, and the number of boxes before and after: if the child
-- was split, at most one box is taken; if not, the node is not split, and nothing is said of the boxes
abbrev pub IsSpent : Split → Split → ℕ → ℕ → Type 0
IsSpent Fits Fits old new = ⊤
IsSpent Fits (Splits k right) old new = ⊥
IsSpent (Splits j part) split old new = old ≤ new + 1

-- the size stored in the root; 0 for a leaf
abbrev pub kept_size : Tree → ℕ
kept_size (Underfull' p size a k b m c) = size
kept_size (Two' p size a k b m c) = size
kept_size (Three' p size a k b m c) = size
kept_size _ = 0

-- a node that is a tree except for its stored size, which is too small by `added`
abbrev pub HasGrown : ℕ → Tree → Type 0
HasGrown added (Two' p size a k b m c) =
    IsTree a × IsTree b × (depth b ≡ depth a) × (size + added ≡ count a + 1 + count b)
HasGrown added (Three' p size a k b m c) =
    IsTree a × IsTree b × IsTree c × (depth b ≡ depth a) × (depth c ≡ depth a)
    × (size + added ≡ count a + 1 + count b + 1 + count c)
HasGrown added _ = ⊥

-- a node whose children are trees of equal depth, where `split` was split off its first child and the stored size is
-- too small by `added`; the next two definitions say the same of the second and of the third child
abbrev pub HasSplitFirst : ℕ → Split → Tree → Type 0
HasSplitFirst added split (Two' p size a k b m c) =
    IsTreeWithSplit (depth b) a split × IsTree b × (size + added ≡ split_count a split + 1 + count b)
HasSplitFirst added split (Three' p size a k b m c) =
    IsTreeWithSplit (depth b) a split × IsTree b × IsTree c × (depth c ≡ depth b)
    × (size + added ≡ split_count a split + 1 + count b + 1 + count c)
HasSplitFirst added split _ = ⊥

abbrev pub HasSplitSecond : ℕ → Split → Tree → Type 0
HasSplitSecond added split (Two' p size a k b m c) =
    IsTree a × IsTreeWithSplit (depth a) b split × (size + added ≡ count a + 1 + split_count b split)
HasSplitSecond added split (Three' p size a k b m c) =
    IsTree a × IsTreeWithSplit (depth a) b split × IsTree c × (depth c ≡ depth a)
    × (size + added ≡ count a + 1 + split_count b split + 1 + count c)
HasSplitSecond added split _ = ⊥

abbrev pub HasSplitThird : ℕ → Split → Tree → Type 0
HasSplitThird added split (Three' p size a k b m c) =
    IsTree a × IsTree b × (depth b ≡ depth a) × IsTreeWithSplit (depth a) c split
    × (size + added ≡ count a + 1 + count b + 1 + split_count c split)
HasSplitThird added split _ = ⊥

-- the entries of a node with those of `split` after its first child; the next two do the same for the second and the
-- third
abbrev pub with_first_split : Split → Tree → List Entry
with_first_split split (Two' p size a k b m c) = with_split a split ++ k ∷ entries b
with_first_split split (Three' p size a k b m c) = with_split a split ++ k ∷ (entries b ++ m ∷ entries c)
with_first_split split _ = []

abbrev pub with_second_split : Split → Tree → List Entry
with_second_split split (Two' p size a k b m c) = entries a ++ k ∷ with_split b split
with_second_split split (Three' p size a k b m c) = entries a ++ k ∷ (with_split b split ++ m ∷ entries c)
with_second_split split _ = []

abbrev pub with_third_split : Split → Tree → List Entry
with_third_split split (Three' p size a k b m c) = entries a ++ k ∷ (entries b ++ m ∷ with_split c split)
with_third_split split _ = []
