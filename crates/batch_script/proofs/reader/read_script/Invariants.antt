use Rattle.std.proofs.Common.{◌≡◌, ◌+◌, ◌≤◌, length}
use Rattle.batch_script.specs.Scripts.{lines_from, script_of}
use Rattle.batch_script.specs.Code.Reading.{comes_to}
use Rattle.batch_script.proofs.reader.read_script.Given as goal

abbrev pub invariant-loop-line : goal.invariant-loop-line
invariant-loop-line g l = record {
  fits : l.number + length l.lines ≤ length l.bytes + 2;
  few : length l.reading.done + 1 ≤ l.number;
  left : comes_to g.F.Form.call_of l.reading (lines_from l.number l.lines) ≡ script_of g.F.Form.call_of l.bytes;
}

abbrev pub decreases-loop-line : goal.decreases-loop-line
decreases-loop-line g l = length l.lines
