use Rattle.std.proofs.Common.{refl, sym, ◌∙◌}
use Rattle.core_model.specs.Choice.{some_below}
use Rattle.core_state.specs.Holds.{hold_view}
use Rattle.core_model.proofs.ChoiceLemmas.Searches.{some_here, some_passed}
use Rattle.core_state.proofs.hold.Hold.has_taken.Goals as goal

pub loop-worker-init : goal.loop-worker-init
unfolding some_below
loop-worker-init c = refl

pub returns-then-has_call_of : goal.returns-then-has_call_of
returns-then-has_call_of c =
    let here = sym c.has_call_of.ensures ∙ c.if-has_call_of.true in sym (some_here (hold_view c.args.self.now).taken c.loop-worker.worker c.args.workers here c.loop-worker-test.true)

pub loop-worker-preserved : goal.loop-worker-preserved
loop-worker-preserved c =
    let passed = sym c.has_call_of.ensures ∙ c.if-has_call_of.false in some_passed (hold_view c.args.self.now).taken c.loop-worker.worker c.loop-worker.invariant passed
