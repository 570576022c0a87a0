use Rattle.std.proofs.Common.{refl, sym, ◌∙◌}
use Rattle.core_model.specs.Choice.{least_below, is_owed}
use Rattle.core_state.specs.Holds.{hold_view}
use Rattle.core_model.proofs.ChoiceLemmas.Searches.{least_here, least_passed}
use Rattle.core_state.proofs.hold.Hold.least_owed.Goals as goal

pub loop-worker-init : goal.loop-worker-init
unfolding least_below
loop-worker-init c = refl

pub returns-then-is_owed : goal.returns-then-is_owed
returns-then-is_owed c =
    let here = sym c.is_owed.ensures ∙ c.if-is_owed.true in
    sym (least_here (is_owed (hold_view c.args.self.now)) c.loop-worker.worker c.args.workers c.loop-worker.invariant here c.loop-worker-test.true)

pub loop-worker-preserved : goal.loop-worker-preserved
loop-worker-preserved c =
    let passed = sym c.is_owed.ensures ∙ c.if-is_owed.false in
    least_passed (is_owed (hold_view c.args.self.now)) c.loop-worker.worker c.loop-worker.invariant passed
