use Rattle.std.proofs.Common.{sym, ◌∙◌, arith}
use Rattle.report_walks.specs.Code.Neighbours.{AreInOrder}
use Rattle.report_walks.proofs.Walks.{holds}
use Rattle.report_walks.proofs.BatchWalk.{last_neighbours, some_entries}
use Rattle.report_walks.proofs.batches.is_in_order.Goals as goal

pub returns : goal.returns
returns c = holds (AreInOrder c.args.entries.now) (record {
  some = some_entries c.args.entries.now (sym c.is_empty.ensures ∙ c.if-is_empty.false);
  neighbours = c.loop-place.invariant.0 (last_neighbours c.args.entries.now c.loop-place.place (omega (arith, c.loop-place-test.false)));
})
