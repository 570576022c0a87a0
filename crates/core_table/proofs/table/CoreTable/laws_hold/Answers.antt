use Rattle.core_model.specs.Settings.{job_with}
use Rattle.std.proofs.Common.{subst}
use Rattle.core_model.specs.declared.setting.Setting.{Setting}
use Rattle.table_rule.specs.Laws.{Laws}
use Rattle.table_rule.proofs.TableLemmas.Moved.{few_nodes}
use Rattle.core_table.proofs.table.CoreTable.laws_hold.Goals as goal

pub returns : goal.returns
returns g c key is =
    let self = c.args.self.now in let job = job_with g.B.WorkBrand.work self.setting in
    subst (λ (k : Setting). Laws (job_with g.B.WorkBrand.work k)) is (c.laws_hold.ensures g.B.WorkBrand.work self.setting (few_nodes self.nodes job.plan.count self.key.1 self.few.2) self.acts.0 self.acts.1
    (c.job_has_its_sources.ensures g.B.WorkBrand.work self.setting.job self.setting.workers c.acts-acts.ensures.job))
