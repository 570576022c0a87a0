-- Nodes after a removal from one of their children, which may be left underfull.
use Rattle.std.specs.Prelude.{◌≡◌, ℕ, ◌+◌, List, [], ◌∷◌, ◌++◌, Some, None, Bool, true, false}
use Rattle.std.specs.declared.option.Option.{Option}
use Rattle.rank_nodes.specs.declared.entry.Entry.{Entry}
use Rattle.rank_nodes.specs.declared.node.Tree.{Tree}
use Rattle.rank_nodes.specs.declared.node.Tree.TheVariants.{Empty, Underfull', Two', Three'}
use Rattle.rank_nodes.specs.Maps.{value_at, without_entry}
use Rattle.rank_nodes.specs.Nodes.{entries, depth, count, IsTree, IsLoose}

-- whether the root is underfull: it has a single child
abbrev pub has_one_side : Tree → Bool
has_one_side (Underfull' p size a k b m c) = true
has_one_side _ = false

-- two trees, at most one of which has an underfull root
abbrev pub IsPair : Tree → Tree → Type 0
IsPair Empty b = IsLoose b
IsPair (Underfull' p size x k y m z) b = IsTree x × IsTree b
IsPair a b = IsTree a × IsLoose b

-- three trees, at most one of which has an underfull root
abbrev pub IsTriple : Tree → Tree → Tree → Type 0
IsTriple a b Empty = IsPair a b
IsTriple a b (Underfull' p size x k y m z) = IsTree a × IsTree b × IsTree x
IsTriple a b c = IsPair a b × IsTree c

-- a node with two or three children of equal depth, at most one of which has an underfull root; the stored size is
-- right
abbrev pub IsShort : Tree → Type 0
IsShort (Two' p size a k b m c) = IsPair a b × (depth b ≡ depth a) × (size ≡ count a + 1 + count b)
IsShort (Three' p size a k b m c) =
    IsTriple a b c × (depth b ≡ depth a) × (depth c ≡ depth a) × (size ≡ count a + 1 + count b + 1 + count c)
IsShort _ = ⊥

-- the first and the second child of a node; `Empty` if there is none
abbrev pub first_side : Tree → Tree
first_side (Underfull' p size a k b m c) = a
first_side (Two' p size a k b m c) = a
first_side (Three' p size a k b m c) = a
first_side _ = Empty

abbrev pub second_side : Tree → Tree
second_side (Two' p size a k b m c) = b
second_side (Three' p size a k b m c) = b
second_side _ = Empty

-- the entries of a node without its low entry, then without its high entry, which only a node with three children has;
-- a leaf has neither, and gives `[]`
abbrev pub entries_but_low : Tree → List Entry
entries_but_low (Underfull' p size a k b m c) = entries a
entries_but_low (Two' p size a k b m c) = entries a ++ entries b
entries_but_low (Three' p size a k b m c) = entries a ++ (entries b ++ m ∷ entries c)
entries_but_low _ = []

abbrev pub entries_but_high : Tree → List Entry
entries_but_high (Underfull' p size a k b m c) = entries a
entries_but_high (Two' p size a k b m c) = entries a ++ k ∷ entries b
entries_but_high (Three' p size a k b m c) = entries a ++ k ∷ (entries b ++ entries c)
entries_but_high _ = []

-- the number of entries that a removal with this answer took
abbrev pub taken_by : {X : Type 0} → Option X → ℕ
taken_by None = 0
taken_by (Some x) = 1

-- `Some`: the first entry was removed and returned; `None`: the tree has no entries and is unchanged
abbrev pub IsPopped : Tree → Tree → Option Entry → Type 0
IsPopped old new None = (entries old ≡ []) × (count old ≡ 0) × (new ≡ old)
IsPopped old new (Some k) = (entries old ≡ k ∷ entries new) × (count old ≡ count new + 1)

-- `new` is `old` without the key, and the answer is the value that the key had, if any
pub record IsTaken (key : ℕ) (old new : List Entry) (answer : Option ℕ) : Type 0 where
  pub is : new ≡ without_entry key old
  pub answer_is : answer ≡ value_at key old
