use Rattle.std.proofs.Common.{◌≡◌, ◌+◌, ◌++◌, drop, map}
use Rattle.job_names.specs.Names.{spelling}
use Rattle.report_picture.specs.Code.Texts.{calls_text}
use Rattle.report_picture.proofs.batches.push_calls.Given as goal

abbrev pub invariant-loop-place : goal.invariant-loop-place
invariant-loop-place l =
    l.text.items ++ calls_text (map spelling l.names) l.strip.scale l.strip.foot l.batch l.place (l.first + l.place) (drop l.place l.entries)
    ≡ l.fn.text.items ++ calls_text (map spelling l.names) l.strip.scale l.strip.foot l.batch 0 l.first l.entries
