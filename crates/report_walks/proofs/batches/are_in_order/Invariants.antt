use Rattle.std.proofs.Common.{drop}
use Rattle.std.specs.Prelude.{◌↔◌}
use Rattle.std.specs.List.{AllByRecursion}
use Rattle.report_walks.specs.Code.Neighbours.{AreInOrder}
use Rattle.report_walks.proofs.batches.are_in_order.Given as goal

abbrev pub invariant-loop-batch : goal.invariant-loop-batch
invariant-loop-batch l = AllByRecursion AreInOrder (drop l.batch-index l.book) ↔ AllByRecursion AreInOrder l.book
