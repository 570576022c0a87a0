use Rattle.std.proofs.Common.{◌≡◌, List, get_or, sym, ap, ◌∙◌}
use Rattle.std.proofs.lemmas.Option.{get_or_from_slice_get}
use Rattle.seq_objects.specs.Objects.{value_of}
use Rattle.batch_history.specs.declared.batch.Entry.{Entry}
use Rattle.batch_history.specs.declared.row.Row.{Row}
use Rattle.report_walks.specs.Code.Calls.{HasReply}
use Rattle.report_walks.proofs.Walks.{each_more, no_entry, no_row}
use Rattle.report_walks.proofs.values.have_replies.Goals as goal

reply_here : (rows : List Row) (entry : Entry) (d : Row) → (get_or rows entry.leaf d).value ≡ value_of entry.reply → HasReply rows entry
reply_here rows entry d same row is = sym (ap (λ (r : Row). r.value) (get_or_from_slice_get rows entry.leaf row d is)) ∙ same

pub loop-entry-preserved : goal.loop-entry-preserved
loop-entry-preserved c =
    each_more (HasReply c.args.rows.now) c.args.entries.now c.loop-entry.entry-index no_entry c.loop-entry.invariant c.loop-entry-test.true
    (reply_here c.args.rows.now (get_or c.args.entries.now c.loop-entry.entry-index no_entry) no_row (c.if-rows-entry.false ∙ c.value.ensures))
