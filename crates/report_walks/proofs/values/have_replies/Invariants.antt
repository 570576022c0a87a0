use Rattle.std.proofs.Common.{drop}
use Rattle.std.specs.Prelude.{◌↔◌}
use Rattle.std.specs.List.{AllByRecursion}
use Rattle.report_walks.specs.Code.Calls.{HasReply}
use Rattle.report_walks.proofs.values.have_replies.Given as goal

abbrev pub invariant-loop-entry : goal.invariant-loop-entry
invariant-loop-entry l = AllByRecursion (HasReply l.rows) (drop l.entry-index l.entries) ↔ AllByRecursion (HasReply l.rows) l.entries
