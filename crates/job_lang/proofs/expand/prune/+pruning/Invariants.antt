use Rattle.job_lang.proofs.ExpandLemmas.Pruning.{ArePrunedInside}
use Rattle.job_lang.proofs.expand.prune.+pruning.Given as goal

abbrev pub invariant-take_out_empty-loop-item : goal.invariant-take_out_empty-loop-item
invariant-take_out_empty-loop-item l = record {
  unvisited : goal.unvisited-take_out_empty-loop-item l;
  pruned : ArePrunedInside l.item-index l.item-items l.fn.items.items;
}
