use Rattle.sp_order.proofs.PlanLemmas.Occurrences.{node_count_above_0}
use Rattle.sp_order.proofs.PlanLemmas.Laws.{has_root}
use Rattle.sp_order.proofs.laws.plan_has_root.Goals as goal

pub returns : goal.returns
returns c plan tree h = (has_root plan tree h, rw h.count (node_count_above_0 tree))
