use Rattle.core_model.specs.Settings.{job_with}
use Rattle.std.proofs.Common.{arith, refl}
use Rattle.table_rule.specs.Shows.{room_of}
use Rattle.table_rule.proofs.StepLemmas.LookSteps.{hears}
use Rattle.std.proofs.Common.{refl}
use Rattle.table_rule.specs.Views.{with_since}
use Rattle.core_table.proofs.PassLemmas.PassKept.{pass_kept}
use Rattle.core_table.proofs.table.CoreTable.since.Goals as goal

pub load-requires : goal.load-requires
load-requires g c =
    let self = c.args.self.now in let pass = c.args.pass.now in let job = job_with g.B.WorkBrand.work self.setting in let v = pass.seat.me.0 in
    let laws = c.laws_hold.ensures self.setting refl in (
      c.requires.pass.0,
      omega (arith, self.sized.0, c.batch_count-at.ensures, c.layout.ensures.workers),
      rw (self.key.0, c.batch_count-at.ensures, c.layout.ensures.workers) (λ a b d e f. let x = (hears job (room_of self.setting) laws _ _ v pass.seat.me.1 pass.worker pass.number.0 pass.number.1 c.requires.pass.2) a b d e f in (x.0, x.1, x.2, x.3.0, x.4)),
    )

pub returns-clause-pass : goal.returns-clause-pass
returns-clause-pass g c =
    let old = c.args.pass.now.seat in
    pass_kept c.args.self.now.setting _ c.args.pass.now.worker old c.load.new.seat (with_since c.load.result old.me.0) c.load.ensures.0 c.load.ensures.2.0 refl refl refl refl refl refl refl refl c.requires.pass
