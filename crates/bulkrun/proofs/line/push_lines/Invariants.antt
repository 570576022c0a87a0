use Rattle.std.proofs.Common.{◌≡◌, ◌++◌, drop, string_bytes}
use Rattle.bulkrun.specs.Code.{call_lines}
use Rattle.bulkrun.proofs.line.push_lines.Given as goal

abbrev pub invariant-loop-place : goal.invariant-loop-place
invariant-loop-place l =
    string_bytes l.text ++ call_lines l.batch l.place (drop l.place l.calls) (drop l.place l.replies)
    ≡ string_bytes l.fn.text ++ call_lines l.batch 0 l.calls l.replies
