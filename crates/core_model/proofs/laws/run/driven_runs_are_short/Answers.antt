use Rattle.core_model.specs.State.{opening_core}
use Rattle.core_model.specs.Runs.{steps_of}
use Rattle.sp_order.proofs.PlanLemmas.Laws.{has_root}
use Rattle.core_model.proofs.RunLemmas.Facts.{drives_lead}
use Rattle.core_model.proofs.RunLemmas.Turns.{run_is_short}
use Rattle.core_model.proofs.laws.run.driven_runs_are_short.Goals as goal

pub returns : goal.returns
returns c job tree schedule state plan some drives =
    let run = drives_lead job opening_core state schedule 0 drives in
    (run, run_is_short job (steps_of job opening_core state schedule 0 drives) state (c.plan_has_sides.ensures job.plan tree plan) (has_root job.plan tree plan) some run)
