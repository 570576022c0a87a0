use Rattle.core_model.specs.Settings.{job_with}
use Rattle.std.proofs.Common.{◌∙◌, ap, subst}
use Rattle.core_model.specs.Next.{next_act}
use Rattle.table_rule.specs.CoreWords.{Task}
use Rattle.table_rule.specs.DueActs.{IsOpenDue}
use Rattle.core_table.proofs.PassLemmas.DueTasks.{whole_opens}
use Rattle.core_table.proofs.table.CoreTable.side_due.Goals as goal

pub unreachable-requires : goal.unreachable-requires
unreachable-requires g c =
    let self = c.args.self.now in let pass = c.args.pass.now in let job = job_with g.B.WorkBrand.work self.setting in let v = pass.seat.me.0 in
    let due = subst IsOpenDue (ap (λ (t : Task). next_act job t v.own.call) (pass.own.0 ∙ c.in-Whole.is)) c.requires.due in
    let second = whole_opens job.plan c.in-Whole.node (job.plan.after c.in-Whole.node) due in
    c.in_default-after.not-OpenSecond second.0 (c.after.ensures ∙ second.1)
