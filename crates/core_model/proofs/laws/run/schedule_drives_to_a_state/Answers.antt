use Rattle.core_model.specs.State.{opening_core}
use Rattle.sp_order.proofs.PlanLemmas.Laws.{has_root}
use Rattle.core_model.proofs.InvariantLemmas.Reached.{opening_invariant}
use Rattle.core_model.proofs.RunLemmas.Existence.{schedule_drives}
use Rattle.core_model.proofs.laws.run.schedule_drives_to_a_state.Goals as goal

pub returns : goal.returns
returns c job tree schedule plan sources some among =
    let laws = c.plan_has_sides.ensures job.plan tree plan in
    schedule_drives job laws sources tree plan schedule opening_core some among (opening_invariant job laws (has_root job.plan tree plan) some)
