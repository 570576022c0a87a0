use Rattle.std.specs.Ordering.{nat_cmp}
use Rattle.std.specs.BTreeSet.{contains}
use Rattle.report_shares.proofs.CallerSets.{one_more}
use Rattle.report_shares.proofs.callers.add_leaves.Goals as goal

pub loop-entry-preserved : goal.loop-entry-preserved
loop-entry-preserved c leaf =
    one_more leaf c.args.entries.now c.loop-entry.entry-index _ (contains nat_cmp c.args.callers.now leaf) (contains nat_cmp c.loop-entry.callers leaf)
    (contains nat_cmp c.insert.new.self leaf) c.loop-entry-test.true (c.loop-entry.invariant leaf) (c.in_ok-insert.ensures.updates.0 leaf)
