use Rattle.std.proofs.Common.{drop}
use Rattle.std.specs.Prelude.{◌↔◌}
use Rattle.report_walks.specs.Code.Neighbours.{AreNeighbours}
use Rattle.report_walks.proofs.batches.is_in_order.Given as goal

abbrev pub invariant-loop-place : goal.invariant-loop-place
invariant-loop-place l = AreNeighbours (drop l.place l.entries) ↔ AreNeighbours l.entries
