use Rattle.core_model.specs.Settings.{job_with}
use Rattle.std.proofs.Common.{◌<◌, ◌∙◌, arith, refl}
use Rattle.table_rule.specs.Shows.{room_of}
use Rattle.table_rule.proofs.StepLemmas.Sides.{started_in}
use Rattle.table_rule.proofs.StepLemmas.NextActs.{keeps_at, may_keep}
use Rattle.table_rule.proofs.StepLemmas.NodeSteps.{keeps_value}
use Rattle.core_table.proofs.PassLemmas.PassKept.{known_with}
use Rattle.core_table.proofs.table.CoreTable.keep.Goals as goal

pub store-requires : goal.store-requires
store-requires g c =
    let self = c.args.self.now in let pass = c.args.pass.now in let job = job_with g.B.WorkBrand.work self.setting in let v = pass.seat.me.0 in
    let laws = c.laws_hold.ensures self.setting refl in
    let n = c.in-Started.node in
    let may = may_keep job laws v.own.call v.own.told v.own.task c.args.value c.requires.pass.5 c.requires.due in
    let task = pass.own.0 ∙ c.in-Started.is in
    let below : n < job.plan.count = started_in job v.own.task n c.in-Started.start (pass.own.0 ∙ c.in-Started.is) c.requires.pass.5 in (
      c.requires.pass.0,
      omega (arith, self.sized.0, c.value-at.ensures, c.layout.ensures.workers, c.layout.ensures.nodes, self.key.1, below),
      rw (self.key.0, c.value-at.ensures, c.layout.ensures.workers, c.layout.ensures.nodes) (λ a b d e f. let x = (keeps_value job (room_of self.setting) laws _ _ v pass.seat.me.1 pass.worker pass.number.0 pass.number.1 c.requires.pass.2 c.requires.pass.4 (known_with g.B.WorkBrand.work c.args.pass.now.seat.me.0 c.args.self.now.setting c.requires.pass.9)
          _ c.args.value (n, c.in-Started.start, task, keeps_at job v.own.told v.own.task v.own.call c.args.value n c.in-Started.start may task) (omega (arith, self.key.1)) below c.requires.free) a b d e f in (x.0, x.1, x.2, x.3.0, x.4)),
    )
