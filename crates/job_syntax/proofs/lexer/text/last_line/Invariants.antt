use Rattle.std.proofs.Common.{◌≡◌, ◌+◌, ◌≤◌, drop}
use Rattle.job_syntax.specs.Text.{last_line_from, last_line}
use Rattle.job_syntax.proofs.lexer.text.last_line.Given as goal

abbrev pub invariant-loop-byte : goal.invariant-loop-byte
invariant-loop-byte l = record {
  fits : l.line ≤ l.byte-index + 1;
  left : last_line_from l.line (drop l.byte-index l.text) ≡ last_line l.text;
}
