use Rattle.std.proofs.Common.{ap, ◌∙◌, ◌||◌}
use Rattle.std.specs.Ordering.{nat_cmp}
use Rattle.std.specs.BTreeSet.{contains}
use Rattle.report_shares.specs.Code.{is_among}
use Rattle.report_shares.proofs.CallerSets.{batch_more}
use Rattle.report_shares.proofs.callers.callers_of.Goals as goal

pub loop-batch-preserved : goal.loop-batch-preserved
loop-batch-preserved c leaf =
    let old = contains nat_cmp c.loop-batch.callers leaf in
    batch_more leaf c.args.book.now c.loop-batch.batch-index c.batch-item.result old (contains nat_cmp c.add_leaves.new.callers leaf) c.loop-batch-test.true
    (c.in_ok-add_leaves.ensures leaf ∙ ap (λ entries. old || is_among leaf entries) (c.entries.ensures ∙ c.batch-item.is))
    ∙ c.loop-batch.invariant leaf
