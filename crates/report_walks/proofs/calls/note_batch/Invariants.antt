use Rattle.std.proofs.Common.{◌≡◌, length, drop}
use Rattle.std.specs.Prelude.{◌↔◌}
use Rattle.report_walks.specs.Code.Calls.{all_noted, CanNoteAll}
use Rattle.report_walks.proofs.calls.note_batch.Given as goal

abbrev pub invariant-loop-entry : goal.invariant-loop-entry
invariant-loop-entry l = record {
  long : length l.values.items ≡ length l.acts;
  can : CanNoteAll l.acts l.values.items (drop l.entry-index l.entries) ↔ CanNoteAll l.acts l.fn.values.items l.entries;
  noted : all_noted l.values.items (drop l.entry-index l.entries) ≡ all_noted l.fn.values.items l.entries;
}
