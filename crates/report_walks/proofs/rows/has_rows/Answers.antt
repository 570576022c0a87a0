use Rattle.std.proofs.Common.{◌≡◌, ℕ, ◌+◌, ◌*◌, ◌<◌, Bool, false, List, [], length, get_or, drop, refl, sym, ap, subst, arith}
use Rattle.std.specs.Prelude.{replicate, ◌↔◌}
use Rattle.sp_order.specs.Precedence.{leaf_count}
use Rattle.sp_order.specs.Jobs.{JobValue}
use Rattle.batch_history.specs.Lawful.{HasRows}
use Rattle.batch_history.specs.declared.row.Row.{Row}
use Rattle.report_walks.specs.Parts.{report_of}
use Rattle.report_walks.specs.Code.Rows.{IsRowOf, IsFree, with_taken, AllTaken, RowsFrom}
use Rattle.report_walks.proofs.Walks.{denied, opened, ended, begun}
use Rattle.report_walks.proofs.RowWalk.{rows_long, has_rows_of, rows_of_has}
use Rattle.report_walks.proofs.rows.has_rows.Goals as goal

-- what the row at hand keeps, where the rows are right
row_here : (job : JobValue) (workers leaf : ℕ) (taken : List Bool) (rows : List Row) (d : Row) → length rows ≡ leaf_count job.shape → leaf < length rows
    → (RowsFrom workers leaf taken (drop leaf rows) ↔ RowsFrom workers 0 (replicate (2 * length rows) false) rows)
    → HasRows job workers (report_of workers [] rows)
    → IsRowOf workers leaf (get_or rows leaf d) × IsFree taken (get_or rows leaf d).start × IsFree (with_taken taken (get_or rows leaf d).start) (get_or rows leaf d).end
    × RowsFrom workers (leaf + 1) (with_taken (with_taken taken (get_or rows leaf d).start) (get_or rows leaf d).end) (drop (leaf + 1) rows)
row_here job workers leaf taken rows d long low left has = opened (RowsFrom workers leaf taken) rows leaf d low (left.1 (rows_of_has job workers rows long has))

pub returns-then-rows-leaves-clause-rows : goal.returns-then-rows-leaves-clause-rows
returns-then-rows-leaves-clause-rows c = denied (HasRows c.args.job.now c.args.workers (report_of c.args.workers [] c.args.rows.now)) (λ has.
    absurd (omega (arith, rows_long c.args.job.now c.args.workers (report_of c.args.workers [] c.args.rows.now) has, c.acts-leaves.ensures.job.leaves, ap length c.acts-leaves.ensures.acts, c.if-rows-leaves.true)))

pub returns-then-not-is_row_of-clause-rows : goal.returns-then-not-is_row_of-clause-rows
returns-then-not-is_row_of-clause-rows c =
    let long : length c.args.rows.now ≡ leaf_count c.args.job.now.shape = omega (arith, c.acts-leaves.ensures.job.leaves, ap length c.acts-leaves.ensures.acts, c.if-rows-leaves.false) in
    denied (HasRows c.args.job.now c.args.workers (report_of c.args.workers [] c.args.rows.now)) (λ has.
    c.if-not-is_row_of.ensures.1 ((row_here c.args.job.now c.args.workers c.loop-leaf.leaf c.loop-leaf.taken.items c.args.rows.now _ long c.loop-leaf-test.true c.loop-leaf.invariant has).0))

pub returns-then-not-take_tick-clause-rows : goal.returns-then-not-take_tick-clause-rows
returns-then-not-take_tick-clause-rows c =
    let long : length c.args.rows.now ≡ leaf_count c.args.job.now.shape = omega (arith, c.acts-leaves.ensures.job.leaves, ap length c.acts-leaves.ensures.acts, c.if-rows-leaves.false) in
    denied (HasRows c.args.job.now c.args.workers (report_of c.args.workers [] c.args.rows.now)) (λ has.
    absurd (c.if-not-take_tick.ensures.not refl ((row_here c.args.job.now c.args.workers c.loop-leaf.leaf c.loop-leaf.taken.items c.args.rows.now _ long c.loop-leaf-test.true c.loop-leaf.invariant has).1)))

pub returns-then-not-take_tick-2-clause-rows : goal.returns-then-not-take_tick-2-clause-rows
returns-then-not-take_tick-2-clause-rows c =
    let long : length c.args.rows.now ≡ leaf_count c.args.job.now.shape = omega (arith, c.acts-leaves.ensures.job.leaves, ap length c.acts-leaves.ensures.acts, c.if-rows-leaves.false) in
    denied (HasRows c.args.job.now c.args.workers (report_of c.args.workers [] c.args.rows.now)) (λ has.
    absurd (c.if-not-take_tick-2.ensures.not refl (rw (c.if-not-take_tick.ensures.free refl).1
    ((row_here c.args.job.now c.args.workers c.loop-leaf.leaf c.loop-leaf.taken.items c.args.rows.now _ long c.loop-leaf-test.true c.loop-leaf.invariant has).2))))

pub returns-clause-rows : goal.returns-clause-rows
returns-clause-rows c =
    let long : length c.args.rows.now ≡ leaf_count c.args.job.now.shape = omega (arith, c.acts-leaves.ensures.job.leaves, ap length c.acts-leaves.ensures.acts, c.if-rows-leaves.false) in
    let rows = c.args.rows.now in
    let from = RowsFrom c.args.workers c.loop-leaf.leaf c.loop-leaf.taken.items in (
      λ is. has_rows_of c.args.job.now c.args.workers rows long (c.loop-leaf.invariant.0 (begun from rows c.loop-leaf.leaf c.loop-leaf-test.false (subst AllTaken c.as_slice.ensures.value (c.all_taken.ensures.0 is)))),
      λ has. c.all_taken.ensures.1 (subst AllTaken (sym c.as_slice.ensures.value) (ended from rows c.loop-leaf.leaf c.loop-leaf-test.false (c.loop-leaf.invariant.1 (rows_of_has c.args.job.now c.args.workers rows long has)))),
    )
