use Rattle.std.proofs.Common.{◌≡◌, length, ◌+◌, drop}
use Rattle.batch_history.specs.Book.{flat}
use Rattle.report_picture.proofs.drawing.count_calls.Given as goal

abbrev pub invariant-loop-batch : goal.invariant-loop-batch
invariant-loop-batch l = l.count + length (flat (drop l.batch-index l.book)) ≡ length (flat l.book)
