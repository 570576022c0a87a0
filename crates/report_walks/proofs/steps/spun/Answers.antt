use Rattle.std.proofs.Common.{◌∙◌}
use Rattle.report_walks.proofs.StepMaps.{past_odd, past_even, all_steps, wrapped}
use Rattle.report_walks.proofs.steps.spun.Goals as goal
use Rattle.report_walks.proofs.steps.spun.Goals.{then-odd, else-odd}

pub loop-steps-init : goal.loop-steps-init
loop-steps-init c = all_steps c.args.n c.args.n

pub loop-steps-preserved : goal.loop-steps-preserved
loop-steps-preserved c = elim c.if-odd.branch [
  | then-odd w ↦ rw (w.x-is, wrapped c.loop-steps.factor c.loop-steps.addend c.loop-steps.x) (past_odd c.loop-steps.factor c.loop-steps.addend c.loop-steps.steps c.loop-steps.x w.if-odd.true ∙ c.loop-steps.invariant)
  | else-odd w ↦ rw w.x-is (past_even c.loop-steps.factor c.loop-steps.addend c.loop-steps.steps c.loop-steps.x w.if-odd.false ∙ c.loop-steps.invariant)
]
