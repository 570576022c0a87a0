-- Nodes after a removal from one of their children, which may be left underfull.
use Rattle.std.specs.Prelude.{◌≡◌, ℕ, List, [], ◌∷◌, ◌++◌, Option, Some, None, Bool, true, false}
use Rattle.tree_nodes.specs.declared.node.Tree.{Tree}
use Rattle.tree_nodes.specs.declared.node.Tree.TheVariants.{Empty, Underfull', Two', Three'}
use Rattle.key_sets.specs.Keys.{has, without_key}
use Rattle.tree_nodes.specs.Nodes.{keys, depth, IsTree, IsLoose}

-- whether the root is underfull: it has a single child
abbrev pub has_one_side : Tree → Bool
has_one_side (Underfull' p a k b m c) = true
has_one_side _ = false

-- two trees, at most one of which has an underfull root
abbrev pub IsPair : Tree → Tree → Type 0
IsPair Empty b = IsLoose b
IsPair (Underfull' p x k y m z) b = IsTree x × IsTree b
IsPair a b = IsTree a × IsLoose b

-- three trees, at most one of which has an underfull root
abbrev pub IsTriple : Tree → Tree → Tree → Type 0
IsTriple a b Empty = IsPair a b
IsTriple a b (Underfull' p x k y m z) = IsTree a × IsTree b × IsTree x
IsTriple a b c = IsPair a b × IsTree c

-- a node with two or three children of equal depth, at most one of which has an underfull root
abbrev pub IsShort : Tree → Type 0
IsShort (Two' p a k b m c) = IsPair a b × (depth b ≡ depth a)
IsShort (Three' p a k b m c) = IsTriple a b c × (depth b ≡ depth a) × (depth c ≡ depth a)
IsShort _ = ⊥

-- the first and the second child of a node; `Empty` if there is none
abbrev pub first_side : Tree → Tree
first_side (Underfull' p a k b m c) = a
first_side (Two' p a k b m c) = a
first_side (Three' p a k b m c) = a
first_side _ = Empty

abbrev pub second_side : Tree → Tree
second_side (Two' p a k b m c) = b
second_side (Three' p a k b m c) = b
second_side _ = Empty

-- the keys of a node without its low key, then without its high key, which only a node with three children has; a leaf
-- has neither, and gives `[]`
abbrev pub keys_but_low : Tree → List ℕ
keys_but_low (Underfull' p a k b m c) = keys a
keys_but_low (Two' p a k b m c) = keys a ++ keys b
keys_but_low (Three' p a k b m c) = keys a ++ (keys b ++ m ∷ keys c)
keys_but_low _ = []

abbrev pub keys_but_high : Tree → List ℕ
keys_but_high (Underfull' p a k b m c) = keys a
keys_but_high (Two' p a k b m c) = keys a ++ k ∷ keys b
keys_but_high (Three' p a k b m c) = keys a ++ k ∷ (keys b ++ keys c)
keys_but_high _ = []

-- `Some`: the first key was removed and returned; `None`: the tree has no keys and is unchanged
abbrev pub IsPopped : Tree → Tree → Option ℕ → Type 0
IsPopped old new None = (keys old ≡ []) × (new ≡ old)
IsPopped old new (Some k) = keys old ≡ k ∷ keys new

-- `new` is `old` without the key, and `found` says whether `old` has the key
pub record IsTaken (key : ℕ) (old new : List ℕ) (found : Bool) : Type 0 where
  pub is : new ≡ without_key key old
  pub answer : found ≡ has key old

-- `IsTaken`, of the keys of trees
abbrev pub IsRemoved : ℕ → Tree → Tree → Bool → Type 0
IsRemoved key old new found = IsTaken key (keys old) (keys new) found
