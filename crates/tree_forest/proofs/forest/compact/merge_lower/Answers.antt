use Rattle.std.proofs.Common.{◌∷◌, ◌++◌, ap, ◌∙◌, arith}
use Rattle.tree_nodes.specs.Nodes.{keys}
use Rattle.tree23.specs.SideBySide.{entry_keys}
use Rattle.tree23.proofs.SideBySideLemmas.KeyedTrees.{taken}
use Rattle.tree23.proofs.SideBySideLemmas.Joining.{together}
use Rattle.tree_forest.proofs.ForestLemmas.Compacting.{gone_before, in_hand}
use Rattle.tree_forest.proofs.forest.compact.merge_lower.Goals as goal

pub merge_equal-requires-clause-entries : goal.merge_equal-requires-clause-entries
merge_equal-requires-clause-entries c =
    let high = taken _ _ _ c.loop-lower.invariant.trees.entries_are c.in-Some.ensures.taken in
    let low = taken _ _ _ high.others c.in-Some-pop_equal.ensures.taken in
    low.others

pub merge_equal-requires-clause-low : goal.merge_equal-requires-clause-low
merge_equal-requires-clause-low c =
    let high = taken _ _ _ c.loop-lower.invariant.trees.entries_are c.in-Some.ensures.taken in
    let low = taken _ _ _ high.others c.in-Some-pop_equal.ensures.taken in
    low.rooted

pub merge_equal-requires-clause-high : goal.merge_equal-requires-clause-high
merge_equal-requires-clause-high c =
    let high = taken _ _ _ c.loop-lower.invariant.trees.entries_are c.in-Some.ensures.taken in
    high.rooted

pub merge_equal-requires-clause-fits : goal.merge_equal-requires-clause-fits
merge_equal-requires-clause-fits c =
    let high = taken _ _ _ c.loop-lower.invariant.trees.entries_are c.in-Some.ensures.taken in
    let low = taken _ _ _ high.others c.in-Some-pop_equal.ensures.taken in
    let fits = in_hand _ (entry_keys c.loop-lower.trees.entries.items) _ _ _ _ _ c.loop-lower.invariant.keys_are c.requires.fits in
    omega (arith, high.count, low.count, low.height_fits, fits)

pub loop-lower-smaller-in-Continue-1 : goal.loop-lower-smaller-in-Continue-1
loop-lower-smaller-in-Continue-1 c =
    let high = taken _ _ _ c.loop-lower.invariant.trees.entries_are c.in-Some.ensures.taken in
    let low = taken _ _ _ high.others c.in-Some-pop_equal.ensures.taken in
    omega (arith, high.fewer, low.fewer, c.in_ok-merge_equal-in-Some-pop_equal.ensures.count)

pub loop-lower-preserved-in-Continue-1 : goal.loop-lower-preserved-in-Continue-1
loop-lower-preserved-in-Continue-1 c =
    let high = taken _ _ _ c.loop-lower.invariant.trees.entries_are c.in-Some.ensures.taken in
    let low = taken _ _ _ high.others c.in-Some-pop_equal.ensures.taken in
    let same = together _ _ _ _ c.in-Some-pop_equal.low c.in-Some.lower high.keys_are low.keys_are c.in_ok-merge_equal-in-Some-pop_equal.ensures.keys in
    record {
      trees = record { front_is = c.loop-lower.invariant.trees.front_is; entries_are = c.in_ok-merge_equal-in-Some-pop_equal.ensures.entries };
      rooted = c.loop-lower.invariant.rooted;
      count = omega (arith, high.fewer, low.fewer, c.in_ok-merge_equal-in-Some-pop_equal.ensures.count, c.loop-lower.invariant.count);
      keys_are = ap (λ z. (keys c.loop-lower.trees.front.tree ++ z) ++ c.loop-lower.merged.key ∷ keys c.loop-lower.merged.rooted.tree) same ∙ c.loop-lower.invariant.keys_are;
    }

pub put_after-requires-clause-low : goal.put_after-requires-clause-low
put_after-requires-clause-low c =
    let high = taken _ _ _ c.loop-lower.invariant.trees.entries_are c.in-Some.ensures.taken in
    high.rooted

pub put_after-requires-clause-high : goal.put_after-requires-clause-high
put_after-requires-clause-high c = c.loop-lower.invariant.rooted

pub put_after-requires-clause-fits : goal.put_after-requires-clause-fits
put_after-requires-clause-fits c =
    let high = taken _ _ _ c.loop-lower.invariant.trees.entries_are c.in-Some.ensures.taken in
    let fits = in_hand _ (entry_keys c.loop-lower.trees.entries.items) _ _ _ _ _ c.loop-lower.invariant.keys_are c.requires.fits in
    omega (arith, high.count, fits)

pub loop-lower-smaller : goal.loop-lower-smaller
loop-lower-smaller c =
    let high = taken _ _ _ c.loop-lower.invariant.trees.entries_are c.in-Some.ensures.taken in
    rw c.in-None.ensures.taken (omega (arith, high.fewer))

pub loop-lower-preserved : goal.loop-lower-preserved
loop-lower-preserved c =
    let high = taken _ _ _ c.loop-lower.invariant.trees.entries_are c.in-Some.ensures.taken in
    record {
      trees = record { front_is = c.loop-lower.invariant.trees.front_is; entries_are = rw c.in-None.ensures.taken high.others };
      rooted = c.in_ok-put_after-in-None.ensures.rooted;
      count = rw c.in-None.ensures.taken (omega (arith, high.fewer, c.loop-lower.invariant.count));
      keys_are = rw (c.in-None.ensures.taken, c.in_ok-put_after-in-None.ensures.keys) (gone_before _ _ _ _ _ _ _ high.keys_are ∙ c.loop-lower.invariant.keys_are);
    }

pub returns-clause-trees : goal.returns-clause-trees
returns-clause-trees c = record { front_is = c.loop-lower.invariant.trees.front_is; entries_are = rw c.in_default.ensures.taken c.loop-lower.invariant.trees.entries_are }

pub returns-clause-keys : goal.returns-clause-keys
returns-clause-keys c = ap (λ z. (keys c.loop-lower.trees.front.tree ++ entry_keys z) ++ c.loop-lower.merged.key ∷ keys c.loop-lower.merged.rooted.tree) c.in_default.ensures.taken ∙ c.loop-lower.invariant.keys_are

pub returns-clause-count : goal.returns-clause-count
returns-clause-count c = rw c.in_default.ensures.taken c.loop-lower.invariant.count
