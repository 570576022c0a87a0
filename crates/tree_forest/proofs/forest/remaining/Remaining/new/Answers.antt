use Rattle.std.proofs.Common.{◌++◌, ap}
use Rattle.std.proofs.lemmas.List.{reverse-reverse}
use Rattle.tree_nodes.specs.Nodes.{keys}
use Rattle.tree23.specs.SideBySide.{entry_keys}
use Rattle.tree_forest.proofs.ForestLemmas.KeySets.{key_set_as}
use Rattle.tree_forest.proofs.ForestLemmas.Reversing.{entries_turned}
use Rattle.tree_forest.proofs.forest.remaining.Remaining.new.Goals as goal

pub invariant_of-result : goal.invariant_of-result
invariant_of-result c = (
  record { front_is = c.forest.invariant.0.front_is; entries_are = rw c.reverse.ensures.items (entries_turned _ c.forest.invariant.0.entries_are) },
  key_set_as _ _ c.forest.invariant.1 (ap (λ z. keys c.forest.inside.trees.front.tree ++ entry_keys z) (rw c.reverse.ensures.items (reverse-reverse _))),
)
