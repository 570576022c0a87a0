use Rattle.std.proofs.Common.{refl, ◌∙◌}
use Rattle.shared_calls.proofs.shared.Shared.wait.Goals as goal

pub loop-preserved : goal.loop-preserved
loop-preserved g c =
    let i = c.loop.invariant in
    (c.in-Held.ensures.table ∙ i.0, c.in-Held.ensures.held _ refl ∙ i.1)
