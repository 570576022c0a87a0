use Rattle.std.proofs.Common.{length, drop}
use Rattle.std.specs.Prelude.{◌↔◌}
use Rattle.seq_objects.specs.Kept.{store_in}
use Rattle.seq_objects.specs.Stores.{opening_store}
use Rattle.batch_history.specs.Book.{flat, IsLegalFrom}
use Rattle.report_walks.specs.Code.Rooms.{HasRoom}
use Rattle.report_walks.proofs.replies.are_legal.Given as goal

abbrev pub invariant-loop-batch : goal.invariant-loop-batch
invariant-loop-batch l = record {
  room : HasRoom (store_in l.objects) (length (flat (drop l.batch-index l.book)));
  legal : IsLegalFrom (store_in l.objects) (flat (drop l.batch-index l.book)) ↔ IsLegalFrom opening_store (flat l.book);
}
