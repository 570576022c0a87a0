use Rattle.std.proofs.Common.{drop}
use Rattle.std.specs.Prelude.{◌↔◌}
use Rattle.std.specs.List.{AllByRecursion}
use Rattle.batch_history.specs.Book.{flat}
use Rattle.report_walks.specs.Code.Calls.{IsServed}
use Rattle.report_walks.proofs.calls.has_calls.Given as goal

abbrev pub invariant-loop-batch : goal.invariant-loop-batch
invariant-loop-batch l = AllByRecursion (IsServed l.job l.values.items l.rows) (flat (drop l.batch-index l.book)) ↔ AllByRecursion (IsServed l.job l.values.items l.rows) (flat l.book)
