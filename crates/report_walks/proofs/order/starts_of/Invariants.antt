use Rattle.std.proofs.Common.{◌≡◌, ℕ, ◌*◌, ◌<◌, Some, length}
use Rattle.std.specs.Prelude.{slice_get}
use Rattle.batch_history.specs.declared.row.Row.{Row}
use Rattle.report_walks.specs.Code.Spans.{IsRow}
use Rattle.report_walks.proofs.order.starts_of.Given as goal

abbrev pub invariant-loop-leaf : goal.invariant-loop-leaf
invariant-loop-leaf l = record {
  long : length l.starts.items ≡ 2 * length l.rows;
  each : (u : ℕ) (row : Row) → u < l.leaf → IsRow l.rows u row → slice_get l.starts.items row.start ≡ Some (Some u);
  only : (tick u : ℕ) → slice_get l.starts.items tick ≡ Some (Some u) → (row : Row) × IsRow l.rows u row × (row.start ≡ tick);
}
