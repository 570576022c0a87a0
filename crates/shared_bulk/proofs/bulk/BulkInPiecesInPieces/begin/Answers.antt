use Rattle.std.proofs.Common.{◌∙◌, ap, arith}
use Rattle.bulk_calls.specs.Batches.{in_batch_order}
use Rattle.shared_bulk.proofs.bulk.BulkInPiecesInPieces.begin.Goals as goal

pub returns-clause-most : goal.returns-clause-most
returns-clause-most c =
    let few = c.in_ok-rest.ensures.few in
    (few, omega (arith, few))

pub returns-clause-remembers : goal.returns-clause-remembers
returns-clause-remembers c = record {
  calls_are = c.in_ok-calls.ensures.order ∙ ap in_batch_order c.deref.ensures.value;
  context = rw c.deref-2.ensures.value at c.in_ok-rest.ensures.remembers;
}
