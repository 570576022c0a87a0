use Rattle.std.proofs.Common.{◌≡◌, ◌≤◌, length}
use Rattle.job_syntax.specs.Code.Fronts.{behind_comment}
use Rattle.job_syntax.proofs.lexer.text.behind_comment.Given as goal

abbrev pub invariant-loop-left : goal.invariant-loop-left
invariant-loop-left l = record {
  left : behind_comment l.left ≡ behind_comment l.text;
  within : length l.left ≤ length l.text;
}

abbrev pub decreases-loop-left : goal.decreases-loop-left
decreases-loop-left l = length l.left
