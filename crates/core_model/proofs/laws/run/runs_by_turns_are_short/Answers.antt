use Rattle.sp_order.proofs.PlanLemmas.Laws.{has_root}
use Rattle.core_model.proofs.RunLemmas.Turns.{run_is_short}
use Rattle.core_model.proofs.laws.run.runs_by_turns_are_short.Goals as goal

pub returns : goal.returns
returns c job tree steps state plan some run = run_is_short job steps state (c.plan_has_sides.ensures job.plan tree plan) (has_root job.plan tree plan) some run
