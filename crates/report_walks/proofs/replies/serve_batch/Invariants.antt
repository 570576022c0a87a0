use Rattle.std.proofs.Common.{◌≡◌, drop}
use Rattle.std.specs.Prelude.{◌↔◌}
use Rattle.seq_objects.specs.Kept.{store_in}
use Rattle.batch_history.specs.Book.{IsLegalFrom}
use Rattle.batch_history.specs.Serving.{served}
use Rattle.report_walks.specs.Code.Rooms.{GrowsWithin}
use Rattle.report_walks.proofs.replies.serve_batch.Given as goal

abbrev pub invariant-loop-entry : goal.invariant-loop-entry
invariant-loop-entry l = record {
  most : GrowsWithin (store_in l.fn.objects) (store_in l.objects) l.entry-index;
  legal : IsLegalFrom (store_in l.objects) (drop l.entry-index l.entries) ↔ IsLegalFrom (store_in l.fn.objects) l.entries;
  after : served (store_in l.objects) (drop l.entry-index l.entries) ≡ served (store_in l.fn.objects) l.entries;
}
