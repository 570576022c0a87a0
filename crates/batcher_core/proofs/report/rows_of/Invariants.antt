use Rattle.std.proofs.Common.{◌≡◌, None, map}
use Rattle.std.specs.List.{AllByRecursion, range_with_len}
use Rattle.sp_order.specs.Jobs.{job_tree}
use Rattle.sp_order.specs.Preorder.{nodes_of}
use Rattle.core_model.specs.declared.progress.Progress.TheVariants.{Waiting}
use Rattle.core_state.specs.Places.{at}
use Rattle.core_model.specs.Reports.{TellsLeaf}
use Rattle.batcher_core.proofs.report.rows_of.Given as goal

abbrev pub invariant-loop-leaf : goal.invariant-loop-leaf
invariant-loop-leaf l = record {
  leaves : map (λ row. row.leaf) l.rows.items ≡ range_with_len 0 l.leaf;
  told : AllByRecursion (λ row. TellsLeaf (nodes_of (job_tree l.job)).node_of (at l.nodes Waiting) (at l.values None) row) l.rows.items;
}
