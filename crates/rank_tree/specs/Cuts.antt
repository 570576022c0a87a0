-- The result of a cut of a tree at a key.
use Rattle.std.specs.Prelude.{◌≡◌, ℕ, ◌+◌}
use Rattle.rank_nodes.specs.declared.node.Tree.{Tree}
use Rattle.rank_nodes.specs.declared.node.Rooted.{Rooted}
use Rattle.rank_nodes.specs.Code.Splits.{IsSplit}
use Rattle.rank_nodes.specs.Nodes.{entries, count, IsRooted}

-- `whole` is cut at `key` into two trees, whose counts add up to its own
pub record IsCut (key : ℕ) (whole : Tree) (low high : Rooted) : Type 0 where
  pub split : IsSplit key (entries whole) (entries low.tree) (entries high.tree)
  pub low_is : IsRooted low
  pub high_is : IsRooted high
  pub total : count whole ≡ count low.tree + count high.tree
