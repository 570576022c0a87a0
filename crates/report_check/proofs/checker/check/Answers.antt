use Rattle.std.proofs.Common.{sym}
use Rattle.std.proofs.lemmas.Bool.{iff_false}
use Rattle.report_check.proofs.Parts.{Sees, rows_part, order_part, calls_part, ticks_part, fails_rows, fails_order, fails_calls, fails_replies, fails_ticks, fails_batches, fails_values, is_lawful}
use Rattle.report_check.proofs.Entries.{long, few, leaves_below, batch_below}
use Rattle.report_check.proofs.checker.check.Goals as goal

pub returns-then-not-branch-clause-flaw : goal.returns-then-not-branch-clause-flaw
returns-then-not-branch-clause-flaw c =
    let sees : Sees c.args.raw.now = record { workers = c.workers.result; book = c.batches-book.result.now; rows = c.rows-rows.result.now; workers_are = c.workers.ensures.workers; book_is = c.batches-book.ensures.batches; rows_are = c.rows-rows.ensures.rows } in
    fails_rows c.args.job.now c.args.raw.now sees (iff_false c.in_ok-has_rows.ensures.rows c.if-not-branch.true)

pub returns-then-not-branch-clause-text : goal.returns-then-not-branch-clause-text
returns-then-not-branch-clause-text c text has = (c.args.raw.now, has, returns-then-not-branch-clause-flaw c)

pub returns-then-not-branch-2-clause-flaw : goal.returns-then-not-branch-2-clause-flaw
returns-then-not-branch-2-clause-flaw c =
    let sees : Sees c.args.raw.now = record { workers = c.workers.result; book = c.batches-book.result.now; rows = c.rows-rows.result.now; workers_are = c.workers.ensures.workers; book_is = c.batches-book.ensures.batches; rows_are = c.rows-rows.ensures.rows } in
    let rows = c.in_ok-has_rows.ensures.rows.0 c.if-not-branch.false in
    fails_order c.args.job.now c.args.raw.now sees rows (iff_false c.in_ok-keeps_order.ensures c.if-not-branch-2.true)

pub returns-then-not-branch-2-clause-text : goal.returns-then-not-branch-2-clause-text
returns-then-not-branch-2-clause-text c text has = (c.args.raw.now, has, returns-then-not-branch-2-clause-flaw c)

pub has_calls-requires-clause-rows : goal.has_calls-requires-clause-rows
has_calls-requires-clause-rows c = let rows = c.in_ok-has_rows.ensures.rows.0 c.if-not-branch.false in long c.args.job.now c.workers.result c.batches-book.result.now c.rows-rows.result.now c.has_rows.ensures.job rows

pub returns-then-not-branch-3-clause-flaw : goal.returns-then-not-branch-3-clause-flaw
returns-then-not-branch-3-clause-flaw c =
    let sees : Sees c.args.raw.now = record { workers = c.workers.result; book = c.batches-book.result.now; rows = c.rows-rows.result.now; workers_are = c.workers.ensures.workers; book_is = c.batches-book.ensures.batches; rows_are = c.rows-rows.ensures.rows } in
    let rows = c.in_ok-has_rows.ensures.rows.0 c.if-not-branch.false in
    let order = c.in_ok-keeps_order.ensures.0 c.if-not-branch-2.false in
    fails_calls c.args.job.now c.args.raw.now sees rows order (iff_false c.in_ok-has_calls.ensures c.if-not-branch-3.true)

pub returns-then-not-branch-3-clause-text : goal.returns-then-not-branch-3-clause-text
returns-then-not-branch-3-clause-text c text has = (c.args.raw.now, has, returns-then-not-branch-3-clause-flaw c)

pub are_legal-requires : goal.are_legal-requires
are_legal-requires c = let rows = c.in_ok-has_rows.ensures.rows.0 c.if-not-branch.false in let calls = c.in_ok-has_calls.ensures.0 c.if-not-branch-3.false in few c.args.job.now c.workers.result c.batches-book.result.now c.rows-rows.result.now c.has_rows.ensures.job rows calls

pub returns-then-not-branch-4-clause-flaw : goal.returns-then-not-branch-4-clause-flaw
returns-then-not-branch-4-clause-flaw c =
    let sees : Sees c.args.raw.now = record { workers = c.workers.result; book = c.batches-book.result.now; rows = c.rows-rows.result.now; workers_are = c.workers.ensures.workers; book_is = c.batches-book.ensures.batches; rows_are = c.rows-rows.ensures.rows } in
    let rows = c.in_ok-has_rows.ensures.rows.0 c.if-not-branch.false in
    let order = c.in_ok-keeps_order.ensures.0 c.if-not-branch-2.false in
    let calls = c.in_ok-has_calls.ensures.0 c.if-not-branch-3.false in
    fails_replies c.args.job.now c.args.raw.now sees rows order calls (iff_false c.in_ok-are_legal.ensures c.if-not-branch-4.true)

pub returns-then-not-branch-4-clause-text : goal.returns-then-not-branch-4-clause-text
returns-then-not-branch-4-clause-text c text has = (c.args.raw.now, has, returns-then-not-branch-4-clause-flaw c)

pub keeps_ticks-requires : goal.keeps_ticks-requires
keeps_ticks-requires c = let rows = c.in_ok-has_rows.ensures.rows.0 c.if-not-branch.false in let calls = c.in_ok-has_calls.ensures.0 c.if-not-branch-3.false in batch_below c.args.job.now c.workers.result c.batches-book.result.now c.rows-rows.result.now c.has_rows.ensures.job rows calls

pub returns-then-not-keeps_ticks-clause-flaw : goal.returns-then-not-keeps_ticks-clause-flaw
returns-then-not-keeps_ticks-clause-flaw c =
    let sees : Sees c.args.raw.now = record { workers = c.workers.result; book = c.batches-book.result.now; rows = c.rows-rows.result.now; workers_are = c.workers.ensures.workers; book_is = c.batches-book.ensures.batches; rows_are = c.rows-rows.ensures.rows } in
    let rows = c.in_ok-has_rows.ensures.rows.0 c.if-not-branch.false in
    let order = c.in_ok-keeps_order.ensures.0 c.if-not-branch-2.false in
    let calls = c.in_ok-has_calls.ensures.0 c.if-not-branch-3.false in
    let replies = c.in_ok-are_legal.ensures.0 c.if-not-branch-4.false in
    fails_ticks c.args.job.now c.args.raw.now sees rows order calls replies (iff_false c.keeps_ticks.ensures c.if-not-keeps_ticks.true)

pub returns-then-not-keeps_ticks-clause-text : goal.returns-then-not-keeps_ticks-clause-text
returns-then-not-keeps_ticks-clause-text c text has = (c.args.raw.now, has, returns-then-not-keeps_ticks-clause-flaw c)

pub returns-then-not-are_batches-clause-flaw : goal.returns-then-not-are_batches-clause-flaw
returns-then-not-are_batches-clause-flaw c =
    let sees : Sees c.args.raw.now = record { workers = c.workers.result; book = c.batches-book.result.now; rows = c.rows-rows.result.now; workers_are = c.workers.ensures.workers; book_is = c.batches-book.ensures.batches; rows_are = c.rows-rows.ensures.rows } in
    let rows = c.in_ok-has_rows.ensures.rows.0 c.if-not-branch.false in
    let order = c.in_ok-keeps_order.ensures.0 c.if-not-branch-2.false in
    let calls = c.in_ok-has_calls.ensures.0 c.if-not-branch-3.false in
    let replies = c.in_ok-are_legal.ensures.0 c.if-not-branch-4.false in
    let ticks = c.keeps_ticks.ensures.0 c.if-not-keeps_ticks.false in
    let walk = c.are_batches.ensures c.args.job.now c.args.raw.now (sym c.batches-book.ensures.batches) c.has_rows.ensures.job (rows_part c.args.job.now c.args.raw.now sees rows) (order_part c.args.job.now c.args.raw.now sees order) (calls_part c.args.job.now c.args.raw.now sees calls) (ticks_part c.args.job.now c.args.raw.now sees ticks) in
    fails_batches c.args.job.now c.args.raw.now sees rows order calls replies ticks (iff_false walk c.if-not-are_batches.true)

pub returns-then-not-are_batches-clause-text : goal.returns-then-not-are_batches-clause-text
returns-then-not-are_batches-clause-text c text has = (c.args.raw.now, has, returns-then-not-are_batches-clause-flaw c)

pub has_values-requires-clause-rows : goal.has_values-requires-clause-rows
has_values-requires-clause-rows c = let rows = c.in_ok-has_rows.ensures.rows.0 c.if-not-branch.false in long c.args.job.now c.workers.result c.batches-book.result.now c.rows-rows.result.now c.has_rows.ensures.job rows

pub has_values-requires-clause-leaves : goal.has_values-requires-clause-leaves
has_values-requires-clause-leaves c = let rows = c.in_ok-has_rows.ensures.rows.0 c.if-not-branch.false in let calls = c.in_ok-has_calls.ensures.0 c.if-not-branch-3.false in leaves_below c.args.job.now c.workers.result c.batches-book.result.now c.rows-rows.result.now c.has_rows.ensures.job rows calls

pub returns-then-not-has_values-clause-flaw : goal.returns-then-not-has_values-clause-flaw
returns-then-not-has_values-clause-flaw c =
    let sees : Sees c.args.raw.now = record { workers = c.workers.result; book = c.batches-book.result.now; rows = c.rows-rows.result.now; workers_are = c.workers.ensures.workers; book_is = c.batches-book.ensures.batches; rows_are = c.rows-rows.ensures.rows } in
    let rows = c.in_ok-has_rows.ensures.rows.0 c.if-not-branch.false in
    let order = c.in_ok-keeps_order.ensures.0 c.if-not-branch-2.false in
    let calls = c.in_ok-has_calls.ensures.0 c.if-not-branch-3.false in
    let replies = c.in_ok-are_legal.ensures.0 c.if-not-branch-4.false in
    let ticks = c.keeps_ticks.ensures.0 c.if-not-keeps_ticks.false in
    let walk = c.are_batches.ensures c.args.job.now c.args.raw.now (sym c.batches-book.ensures.batches) c.has_rows.ensures.job (rows_part c.args.job.now c.args.raw.now sees rows) (order_part c.args.job.now c.args.raw.now sees order) (calls_part c.args.job.now c.args.raw.now sees calls) (ticks_part c.args.job.now c.args.raw.now sees ticks) in
    let batches = walk.0 c.if-not-are_batches.false in
    fails_values c.args.job.now c.args.raw.now sees rows order calls replies ticks batches (iff_false c.has_values.ensures c.if-not-has_values.true)

pub returns-then-not-has_values-clause-text : goal.returns-then-not-has_values-clause-text
returns-then-not-has_values-clause-text c text has = (c.args.raw.now, has, returns-then-not-has_values-clause-flaw c)

pub returns-clause-lawful : goal.returns-clause-lawful
returns-clause-lawful c =
    let sees : Sees c.args.raw.now = record { workers = c.workers.result; book = c.batches-book.result.now; rows = c.rows-rows.result.now; workers_are = c.workers.ensures.workers; book_is = c.batches-book.ensures.batches; rows_are = c.rows-rows.ensures.rows } in
    let rows = c.in_ok-has_rows.ensures.rows.0 c.if-not-branch.false in
    let order = c.in_ok-keeps_order.ensures.0 c.if-not-branch-2.false in
    let calls = c.in_ok-has_calls.ensures.0 c.if-not-branch-3.false in
    let replies = c.in_ok-are_legal.ensures.0 c.if-not-branch-4.false in
    let ticks = c.keeps_ticks.ensures.0 c.if-not-keeps_ticks.false in
    let walk = c.are_batches.ensures c.args.job.now c.args.raw.now (sym c.batches-book.ensures.batches) c.has_rows.ensures.job (rows_part c.args.job.now c.args.raw.now sees rows) (order_part c.args.job.now c.args.raw.now sees order) (calls_part c.args.job.now c.args.raw.now sees calls) (ticks_part c.args.job.now c.args.raw.now sees ticks) in
    let batches = walk.0 c.if-not-are_batches.false in
    is_lawful c.args.job.now c.args.raw.now sees rows order calls replies ticks batches (c.has_values.ensures.0 c.if-not-has_values.false)

pub returns-clause-text : goal.returns-clause-text
returns-clause-text c text has = (c.args.raw.now, has, returns-clause-lawful c)
