use Rattle.std.proofs.Common.{◌≡◌, Option, ap, refl, subst, sym}
use Rattle.sp_order.specs.Jobs.{job_tree}
use Rattle.sp_order.specs.Precedence.{Tree}
use Rattle.sp_order.specs.Preorder.{nodes_of}
use Rattle.core_model.specs.State.{core_job_with}
use Rattle.batch_history.specs.Lawful.{LawfulWith}
use Rattle.core_model.proofs.ReportLemmas.EndedRuns.{run_ended}
use Rattle.core_model.proofs.ReportLemmas.Lawful.{job_with, report_lawful}
use Rattle.core_model.proofs.laws.report.done_report_is_lawful.Goals as goal

pub returns : goal.returns
returns c work job workers state report shape fits parts done is =
    let tree = job_tree job in
    let same : job ≡ job_with tree job = ap (λ (s : Option Tree). record job { shape = s }) shape in
    let stands = c.plan_stands_for_tree.ensures tree in
    let ended = run_ended (core_job_with work job workers) tree state stands (c.plan_has_sides.ensures (nodes_of tree) tree stands)
    (λ leaf low. (c.leaf_has_one_node.ensures (nodes_of tree) tree stands leaf ((nodes_of tree).node_of leaf) low).1 refl) parts done in
    subst (λ j. LawfulWith work j workers report) (sym same)
    (report_lawful work tree job workers state report fits (λ u v low low' before. (c.before_is_by_series.ensures (nodes_of tree) tree stands u v low low').0 before) ended is)
