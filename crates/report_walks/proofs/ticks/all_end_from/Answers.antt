use Rattle.std.proofs.Common.{◌≡◌, true, false, length, refl, arith}
use Rattle.report_walks.proofs.TickWalk.{end_more, ended_early, call_at, has_row}
use Rattle.report_walks.proofs.ticks.all_end_from.Goals as goal

pub bounds-rows-entry : goal.bounds-rows-entry
bounds-rows-entry c = has_row c.args.rows.now c.args.entries.now c.loop-entry.entry-index _ c.requires c.loop-entry-test.true

pub returns-then-rows-entry : goal.returns-then-rows-entry
returns-then-rows-entry c = (
  λ is. absurd (let wrong : false ≡ true = is in cc (wrong)),
  λ ends. absurd (ended_early c.args.rows.now c.args.entries.now (length c.args.entries.now) c.args.tick c.loop-entry.entry-index _ c.loop-entry-test.true
      (call_at c.args.rows.now c.args.entries.now c.loop-entry.entry-index _ _ c.loop-entry-test.true (has_row c.args.rows.now c.args.entries.now c.loop-entry.entry-index _ c.requires c.loop-entry-test.true)) c.if-rows-entry.true ends),
)

pub loop-entry-preserved : goal.loop-entry-preserved
loop-entry-preserved c =
    end_more c.args.rows.now c.args.entries.now c.loop-entry.entry-index c.args.tick _ c.loop-entry.invariant
    (call_at c.args.rows.now c.args.entries.now c.loop-entry.entry-index _ _ c.loop-entry-test.true (has_row c.args.rows.now c.args.entries.now c.loop-entry.entry-index _ c.requires c.loop-entry-test.true)) c.if-rows-entry.false

pub returns : goal.returns
returns c = (λ is place row low at. c.loop-entry.invariant place row (omega (arith, low, c.loop-entry-test.false)) at, λ ends. refl)
