use Rattle.report_walks.proofs.TickWalk.{latest_more, call_at, has_row}
use Rattle.report_walks.proofs.ticks.latest_start.Goals as goal

pub bounds-rows-entry : goal.bounds-rows-entry
bounds-rows-entry c = has_row c.args.rows.now c.args.entries.now c.loop-entry.entry-index _ c.requires c.loop-entry-test.true

pub loop-entry-preserved : goal.loop-entry-preserved
loop-entry-preserved c =
    rw c.max-greatest.ensures (latest_more c.args.rows.now c.args.entries.now c.loop-entry.entry-index c.args.latest c.loop-entry.greatest _ c.loop-entry.invariant
    (call_at c.args.rows.now c.args.entries.now c.loop-entry.entry-index _ _ c.loop-entry-test.true (has_row c.args.rows.now c.args.entries.now c.loop-entry.entry-index _ c.requires c.loop-entry-test.true)))
