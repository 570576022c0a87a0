use Rattle.std.proofs.Common.{◌≡◌, None, length, drop}
use Rattle.std.specs.Prelude.{replicate, ◌↔◌}
use Rattle.batch_history.specs.Book.{flat}
use Rattle.report_walks.specs.Code.Calls.{all_noted, CanNoteAll}
use Rattle.report_walks.proofs.calls.values_of.Given as goal

abbrev pub invariant-loop-batch : goal.invariant-loop-batch
invariant-loop-batch l = record {
  long : length l.values.items ≡ length l.acts;
  can : CanNoteAll l.acts l.values.items (flat (drop l.batch-index l.book)) ↔ CanNoteAll l.acts (replicate (length l.acts) None) (flat l.book);
  noted : all_noted l.values.items (flat (drop l.batch-index l.book)) ≡ all_noted (replicate (length l.acts) None) (flat l.book);
}
