use Rattle.std.proofs.Common.{refl}
use Rattle.sp_order.specs.Precedence.{leaves}
use Rattle.core_model.proofs.ReportLemmas.EndedRuns.{run_ended, leaf_ended}
use Rattle.core_model.proofs.laws.report.done_leaves_have_run.Goals as goal

pub returns : goal.returns
returns c job tree state plan parts done =
    leaf_ended job (leaves tree) state
    (run_ended job tree state plan (c.plan_has_sides.ensures job.plan tree plan) (λ leaf low. (c.leaf_has_one_node.ensures job.plan tree plan leaf (job.plan.node_of leaf) low).1 refl) parts done)
