use Rattle.std.proofs.Common.{drop}
use Rattle.std.specs.Prelude.{◌↔◌}
use Rattle.std.specs.List.{AllByRecursion}
use Rattle.report_walks.specs.Code.Calls.{IsServed}
use Rattle.report_walks.proofs.calls.are_served.Given as goal

abbrev pub invariant-loop-entry : goal.invariant-loop-entry
invariant-loop-entry l = AllByRecursion (IsServed l.job l.values l.rows) (drop l.entry-index l.entries) ↔ AllByRecursion (IsServed l.job l.values l.rows) l.entries
