use Rattle.core_model.specs.Settings.{job_with}
use Rattle.std.proofs.Common.{arith, refl}
use Rattle.table_rule.specs.Shows.{room_of}
use Rattle.table_rule.specs.Views.{with_stop}
use Rattle.table_rule.proofs.StepLemmas.LookSteps.{stops}
use Rattle.core_table.proofs.PassLemmas.PassKept.{known_with, pass_kept}
use Rattle.std.proofs.Common.{ap}
use Rattle.table_rule.specs.Plays.{SeatState}
use Rattle.core_table.proofs.PassLemmas.Refused.{moment_told}
use Rattle.core_table.proofs.table.CoreTable.stop.Goals as goal

pub store-requires : goal.store-requires
store-requires g c =
    let self = c.args.self.now in let pass = c.args.pass.now in let job = job_with g.B.WorkBrand.work self.setting in let v = pass.seat.me.0 in
    let laws = c.laws_hold.ensures self.setting refl in (
      c.requires.pass.0,
      omega (arith, self.sized.0, c.stop-at.ensures, c.layout.ensures.workers),
      rw (self.key.0, c.stop-at.ensures, c.layout.ensures.workers) (λ a b d e f. let x = (stops job (room_of self.setting) laws _ _ v pass.seat.me.1 pass.worker pass.number.0 pass.number.1 c.requires.pass.2 (known_with g.B.WorkBrand.work c.args.pass.now.seat.me.0 c.args.self.now.setting c.requires.pass.9) c.requires.pass.6) a b d e f in (x.0, x.1, x.2, x.3.0, x.4)),
    )

pub returns-clause-pass : goal.returns-clause-pass
returns-clause-pass g c =
    let old = c.args.pass.now.seat in let t = c.store.ensures.2.0 in
    pass_kept c.args.self.now.setting _ c.args.pass.now.worker old c.store.new.seat (with_stop t.0 old.me.0) c.store.ensures.0 t.2 refl refl refl refl refl refl refl refl c.requires.pass

pub returns-clause-stopped : goal.returns-clause-stopped
returns-clause-stopped g c =
    let t = c.store.ensures.2.0 in (t.0, moment_told g.B.WorkBrand.work c.args.self.now c.args.pass.now t.0 c.requires.pass t.1, ap (λ (m : SeatState). m.0) t.2)
