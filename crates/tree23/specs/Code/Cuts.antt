-- The states of a cut of a tree at a key.
use Rattle.std.specs.Prelude.{◌≡◌, ℕ, ◌<◌, ◌≤◌, List, [], ◌++◌, Some, None, ⊤}
use Rattle.std.specs.declared.option.Option.{Option}
use Rattle.std.specs.List.{AllByRecursion}
use Rattle.std.specs.Option.{option_to_list}
use Rattle.tree23.specs.declared.trees.Trees.{Trees}
use Rattle.tree23.specs.declared.trees.cut.Cut.{Cut}
use Rattle.key_sets.specs.Keys.{StrictlyAscends}
use Rattle.tree_nodes.specs.Nodes.{keys}
use Rattle.tree23.specs.SideBySide.{in_order, in_reverse, AreTrees}
use Rattle.key_sets.specs.Splits.{IsSplit}

-- a tree can be appended to a row: after a key always, without a key only if the row is one tree without keys
abbrev pub CanStand : Option ℕ → Trees → Type 0
CanStand (Some key) trees = ⊤
CanStand None trees = (keys trees.front.tree ≡ []) × (trees.entries.items ≡ [])

-- the keys of the low side, and then the key before the tree that is being cut, if there is one
abbrev pub low_keys : Cut → List ℕ
low_keys c = in_order c.low ++ option_to_list c.before

-- all keys in order: those of the low side, those of the tree that is being cut (`set`), and those of the high side
abbrev pub whole_keys : List ℕ → Cut → List ℕ
whole_keys set c = low_keys c ++ (set ++ in_reverse c.high)

-- a cut in progress: the keys of the low side are below `key`, those of the high side are not, and a tree fits between
-- them: it can be appended to the low side, and the first tree of the high side has no keys
pub record IsOpenCut (key : ℕ) (c : Cut) : Type 0 where
  pub low_trees : AreTrees c.low
  pub high_trees : AreTrees c.high
  pub stands : CanStand c.before c.low
  pub empty : keys c.high.front.tree ≡ []
  pub below : AllByRecursion (λ k. k < key) (low_keys c)
  pub above : AllByRecursion (λ k. key ≤ k) (in_reverse c.high)

-- `set` is still to be cut: it strictly ascends, and with the keys of both sides it makes up `whole`
pub record IsLeft (key : ℕ) (whole set : List ℕ) (c : Cut) : Type 0 where
  pub sides : IsOpenCut key c
  pub ascends : StrictlyAscends set
  pub is : whole_keys set c ≡ whole

-- a finished cut: `whole` is divided at `key` between the two sides
pub record IsCut (key : ℕ) (whole : List ℕ) (c : Cut) : Type 0 where
  pub low_trees : AreTrees c.low
  pub high_trees : AreTrees c.high
  pub split : IsSplit key whole (in_order c.low) (in_reverse c.high)
