use Rattle.std.proofs.Common.{◌*◌, false, length, drop}
use Rattle.std.specs.Prelude.{replicate, ◌↔◌}
use Rattle.report_walks.specs.Code.Rows.{RowsFrom}
use Rattle.report_walks.proofs.rows.has_rows.Given as goal

abbrev pub invariant-loop-leaf : goal.invariant-loop-leaf
invariant-loop-leaf l = RowsFrom l.workers l.leaf l.taken.items (drop l.leaf l.rows) ↔ RowsFrom l.workers 0 (replicate (2 * length l.rows) false) l.rows
