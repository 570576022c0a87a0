use Rattle.std.proofs.Common.{drop}
use Rattle.std.specs.Prelude.{◌↔◌}
use Rattle.std.specs.List.{AllByRecursion}
use Rattle.batch_history.specs.Book.{flat}
use Rattle.report_walks.specs.Code.Calls.{HasReply}
use Rattle.report_walks.proofs.values.has_values.Given as goal

abbrev pub invariant-loop-batch : goal.invariant-loop-batch
invariant-loop-batch l = AllByRecursion (HasReply l.rows) (flat (drop l.batch-index l.book)) ↔ AllByRecursion (HasReply l.rows) (flat l.book)
