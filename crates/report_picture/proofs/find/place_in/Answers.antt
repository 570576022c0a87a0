use Rattle.std.proofs.Common.{sym, ◌∙◌}
use Rattle.batch_history.proofs.BookLemmas.Search.{found_here, passed_here, passed_all}
use Rattle.report_picture.proofs.find.place_in.Goals as goal

pub returns-then-entry-leaf : goal.returns-then-entry-leaf
returns-then-entry-leaf c =
    sym (c.loop-place.invariant ∙ found_here c.args.batch c.args.entries.now c.args.leaf c.loop-place.place _ c.loop-place-test.true c.if-entry-leaf.true)

pub loop-place-preserved : goal.loop-place-preserved
loop-place-preserved c =
    c.loop-place.invariant ∙ passed_here c.args.batch c.args.entries.now c.args.leaf c.loop-place.place _ c.loop-place-test.true c.if-entry-leaf.false

pub returns : goal.returns
returns c = sym (c.loop-place.invariant ∙ passed_all c.args.batch c.args.entries.now c.args.leaf c.loop-place.place c.loop-place-test.false)
