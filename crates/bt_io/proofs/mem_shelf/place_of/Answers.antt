use Rattle.std.proofs.Common.{◌∙◌, sym}
use Rattle.bt_io.proofs.Files.{named_at}
use Rattle.bt_io.proofs.mem_shelf.place_of.Goals as goal

pub returns-then-eq-clause-place : goal.returns-then-eq-clause-place
returns-then-eq-clause-place c =
    sym (c.loop-i.invariant ∙ named_at c.args.files.now c.args.name.now c.loop-i.i c.index-files-i.result c.loop-i-test.true c.index-files-i.is (rw c.as_str.ensures.value at (sym c.eq.ensures ∙ c.if-eq.true)))
