use Rattle.tree_forest.proofs.ForestLemmas.KeySets.{key_set_low, key_set_high}
use Rattle.tree_forest.proofs.forest.remaining.Remaining.split_off_below.Goals as goal

pub of-requires-clause-set : goal.of-requires-clause-set
of-requires-clause-set c = key_set_low _ _ _ _ c.self.invariant.1 c.in-Ok.ensures.split

pub invariant_of-self : goal.invariant_of-self
invariant_of-self c = (c.in-Ok.ensures.high_trees, key_set_high _ _ _ _ c.self.invariant.1 c.in-Ok.ensures.split)
