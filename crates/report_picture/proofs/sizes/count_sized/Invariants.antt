use Rattle.std.proofs.Common.{◌≡◌, ◌≤◌, ◌+◌, drop}
use Rattle.report_picture.specs.Boxes.{sized}
use Rattle.report_picture.proofs.sizes.count_sized.Given as goal

abbrev pub invariant-loop-batch : goal.invariant-loop-batch
invariant-loop-batch l = record {
  counted : l.count + sized l.size (drop l.batch-index l.book) ≡ sized l.size l.book;
  few : l.count ≤ l.batch-index;
}
