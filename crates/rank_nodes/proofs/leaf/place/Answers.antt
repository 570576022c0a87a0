use Rattle.std.proofs.Common.{arith}
use Rattle.rank_nodes.proofs.EntryLemmas.Places.{below_up_to, above_from}
use Rattle.rank_nodes.proofs.leaf.place.Goals as goal

pub loop-low-preserved-then-leaf-middle : goal.loop-low-preserved-then-leaf-middle
loop-low-preserved-then-leaf-middle c = record {
  ordered = omega arith;
  within = omega arith;
  below = below_up_to _ _ _ _ c.requires.ascends (omega arith) c.if-leaf-middle.true;
  above = c.loop-low.invariant.above;
}

pub loop-low-preserved : goal.loop-low-preserved
loop-low-preserved c = record {
  ordered = omega arith;
  within = omega arith;
  below = c.loop-low.invariant.below;
  above = above_from _ _ _ _ c.requires.ascends (omega arith) c.if-leaf-middle.false;
}
