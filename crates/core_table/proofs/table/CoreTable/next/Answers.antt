use Rattle.core_model.specs.Settings.{job_with}
use Rattle.std.proofs.Common.{◌∙◌, sym, refl}
use Rattle.sp_order.specs.Jobs.{job_tree}
use Rattle.core_model.specs.Next.{next_act}
use Rattle.core_table.proofs.PassLemmas.NoAct.{idle_by, none_of}
use Rattle.core_table.proofs.table.CoreTable.next.Goals as goal

pub returns-clause-idle : goal.returns-clause-idle
returns-clause-idle g c free none =
    let self = c.args.self.now in let pass = c.args.pass.now in let job = job_with g.B.WorkBrand.work self.setting in let v = pass.seat.me.0 in
    let laws = c.laws_hold.ensures self.setting refl in
    idle_by job (job_tree self.setting.job) laws v.own.task v.own.call (c.plan_stands_for_tree.ensures (job_tree self.setting.job)) c.requires.5 free ((λ i. next_act job (pass.own.0 i) (pass.own.1 i)) ∙ (sym c.next.ensures ∙ none_of c.next.result none))
