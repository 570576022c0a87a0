use Rattle.core_model.proofs.RunLemmas.LiveRuns.{live_done}
use Rattle.core_model.proofs.laws.stopped.idle_stopped_workers_cost_nothing.Goals as goal

pub returns : goal.returns
returns c job tree live first last robin one plan sources h below on idle drives =
    live_done job tree (c.plan_has_sides.ensures job.plan tree plan) plan sources live one below on first last robin h idle drives
