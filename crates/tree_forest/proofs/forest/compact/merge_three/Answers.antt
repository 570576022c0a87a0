use Rattle.std.proofs.Common.{arith}
use Rattle.tree23.proofs.SideBySideLemmas.KeyedTrees.{taken}
use Rattle.tree_forest.proofs.forest.compact.merge_three.Goals as goal

pub merge_equal-requires-clause-fits : goal.merge_equal-requires-clause-fits
merge_equal-requires-clause-fits c =
    let high = taken _ _ _ c.requires.entries c.in-Some.ensures.taken in
    let low = taken _ _ _ high.others c.in-Some-pop_equal.ensures.taken in
    omega (arith, high.count, low.count, low.height_fits)
