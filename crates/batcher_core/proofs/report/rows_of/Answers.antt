use Rattle.std.proofs.Common.{None, [], ◌∷◌}
use Rattle.sp_order.specs.Jobs.{job_tree}
use Rattle.sp_order.specs.Preorder.{nodes_of}
use Rattle.batch_history.specs.declared.row.Row.{Row}
use Rattle.core_model.specs.declared.progress.Progress.TheVariants.{Waiting}
use Rattle.core_state.specs.Places.{at}
use Rattle.core_model.specs.Reports.{TellsLeaf}
use Rattle.seq_objects.proofs.Elements.{each_append}
use Rattle.batcher_core.proofs.ReportLemmas.MadeRows.{run_within, next_row, told_next}
use Rattle.batcher_core.proofs.report.rows_of.Goals as goal

pub bounds-nodes-node : goal.bounds-nodes-node
bounds-nodes-node c = run_within c.args.nodes.now c.node_of-node.result (rw c.node_of-node.ensures (c.requires.ran c.loop-leaf.leaf c.loop-leaf-test.true))

pub row_of-requires-clause-ran : goal.row_of-requires-clause-ran
row_of-requires-clause-ran c = rw c.node_of-node.ensures (c.requires.ran c.loop-leaf.leaf c.loop-leaf-test.true)

pub loop-leaf-preserved : goal.loop-leaf-preserved
loop-leaf-preserved c = record {
  leaves = rw c.in_ok-push.ensures.items (next_row c.loop-leaf.rows.items c.row_of.result c.loop-leaf.leaf c.loop-leaf.invariant.leaves c.row_of.ensures.leaf);
  told = rw c.in_ok-push.ensures.items (each_append
      (λ (row : Row). TellsLeaf (nodes_of (job_tree c.args.job.now)).node_of (at c.args.nodes.now Waiting) (at c.args.values.now None) row) c.loop-leaf.rows.items (c.row_of.result ∷ [])
      c.loop-leaf.invariant.told (
        told_next (nodes_of (job_tree c.args.job.now)).node_of (at c.args.nodes.now Waiting) (at c.args.values.now None) c.row_of.result c.loop-leaf.leaf c.node_of-node.result
            c.row_of.ensures.leaf c.node_of-node.ensures c.row_of.ensures.row,
        tt,
      ));
}
