use Rattle.std.proofs.Common.{◌+◌, ◌≤◌, length}
use Rattle.report_reader.specs.Stops.{AreLines}
use Rattle.report_reader.proofs.stop.read_lines.Given as goal

-- the lines that were read, and what is left
abbrev pub invariant-loop-next : goal.invariant-loop-next
invariant-loop-next l = record {
  are : AreLines l.text l.count l.last l.left;
  within : l.count + length l.left ≤ length l.text;
}

abbrev pub decreases-loop-next : goal.decreases-loop-next
decreases-loop-next l = length l.left
