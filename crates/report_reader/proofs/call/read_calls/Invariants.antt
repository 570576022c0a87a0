use Rattle.std.proofs.Common.{length}
use Rattle.report_reader.specs.Code.Objects.{Extends}
use Rattle.report_reader.proofs.Calls.{HaveRead}
use Rattle.report_reader.proofs.call.read_calls.Given as goal

-- what was read, and what is left
abbrev pub invariant-loop-calls : goal.invariant-loop-calls
invariant-loop-calls l = record {
  extends : Extends l.fn.table l.table;
  read : HaveRead l.table l.text l.calls.items l.rest;
}

abbrev pub decreases-loop-calls : goal.decreases-loop-calls
decreases-loop-calls l = length l.rest
