use Rattle.std.proofs.Common.{◌≡◌, ◌≤◌, map, vec_len, vec_capacity}
use Rattle.std.specs.List.{AllByRecursion, range_with_len}
use Rattle.std.specs.Mem.Slots.{slots_items}
use Rattle.sp_order.specs.Jobs.{job_tree}
use Rattle.sp_order.specs.Preorder.{nodes_of}
use Rattle.core_table.specs.Closing.{RowInWords}
use Rattle.core_table.proofs.close.read_rows.Given as goal

abbrev pub invariant-loop-leaf : goal.invariant-loop-leaf
invariant-loop-leaf l = record {
  leaves : map (λ row. row.leaf) l.rows.items ≡ range_with_len 0 l.leaf;
  told : AllByRecursion (RowInWords l.layout.workers l.layout.nodes l.leaf_total (nodes_of (job_tree l.job)).node_of (slots_items l.closed.words)) l.rows.items;
  len : vec_len l.rows ≡ l.leaf;
  room : l.leaf_total ≤ vec_capacity l.rows;
}
