use Rattle.std.proofs.Common.{◌≡◌, ◌+◌, ◌≤◌, length, false}
use Rattle.job_syntax.specs.Text.{bare, forbidden_line_from, forbidden_line}
use Rattle.job_syntax.proofs.lexer.text.forbidden_line.Given as goal

abbrev pub invariant-loop-left : goal.invariant-loop-left
invariant-loop-left l = record {
  fits : l.line + length l.left ≤ length l.text + 1;
  left : forbidden_line_from l.line (bare false l.left) ≡ forbidden_line l.text;
}

abbrev pub decreases-loop-left : goal.decreases-loop-left
decreases-loop-left l = length l.left
