use Rattle.tree_forest.proofs.ForestLemmas.KeySets.{key_set_without}
use Rattle.tree_forest.proofs.forest.Forest.remove.Goals as goal

pub invariant_of-self : goal.invariant_of-self
invariant_of-self c = (c.remove_in_trees.ensures.trees, key_set_without _ _ _ c.self.invariant.1 c.remove_in_trees.ensures.keys)
