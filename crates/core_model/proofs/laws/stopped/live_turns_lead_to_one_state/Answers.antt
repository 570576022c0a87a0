use Rattle.core_model.proofs.RunLemmas.LiveRuns.{one_live_end, live_keeps}
use Rattle.core_model.proofs.laws.stopped.live_turns_lead_to_one_state.Goals as goal

pub returns-clause-one : goal.returns-clause-one
returns-clause-one c = one_live_end

pub returns-clause-keeps : goal.returns-clause-keeps
returns-clause-keeps c = live_keeps
