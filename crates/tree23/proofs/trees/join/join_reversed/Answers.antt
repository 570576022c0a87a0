use Rattle.std.proofs.Common.{◌^◌, ◌∙◌, arith}
use Rattle.tree_nodes.specs.Nodes.{keys}
use Rattle.tree23.proofs.SideBySideLemmas.KeyedTrees.{taken}
use Rattle.tree23.proofs.SideBySideLemmas.Joining.{turned, still_fits, gone_after}
use Rattle.tree23.proofs.trees.join.join_reversed.Goals as goal

pub put_after-requires-clause-fits : goal.put_after-requires-clause-fits
put_after-requires-clause-fits c =
    omega (arith, still_fits (2 ^ 62) (keys c.loop-entry.trees.front.tree) _ c.in-Some.entry _ _ (turned _ _ _ c.in-Some.ensures.items) c.loop-entry.invariant.keys_are c.requires.fits)

pub loop-entry-preserved : goal.loop-entry-preserved
loop-entry-preserved c =
    let old = taken _ _ _ c.loop-entry.invariant.trees_are.entries_are c.in-Some.ensures.items in
    record {
      trees_are = record { front_is = c.in_ok-put_after.ensures.rooted; entries_are = old.others };
      keys_are = gone_after (keys c.loop-entry.trees.front.tree) _ _ _ c.in-Some.entry c.in-Some.ensures.items c.in_ok-put_after.ensures.keys ∙ c.loop-entry.invariant.keys_are;
    }
