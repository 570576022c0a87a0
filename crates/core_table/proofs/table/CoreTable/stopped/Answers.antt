use Rattle.core_model.specs.Settings.{job_with}
use Rattle.std.proofs.Common.{arith, refl, inl, inr}
use Rattle.std.proofs.lemmas.Bool.{cases_eq}
use Rattle.table_rule.specs.Passes.{finding_stop, finding_none}
use Rattle.table_rule.specs.Views.{with_step, with_miss}
use Rattle.table_rule.specs.Shows.{room_of}
use Rattle.table_rule.proofs.StepLemmas.LookSteps.{looks_at_stop}
use Rattle.core_table.proofs.PassLemmas.PassKept.{known_with, pass_kept}
use Rattle.std.proofs.Common.{ap, ◌∙◌}
use Rattle.table_rule.specs.Plays.{SeatState}
use Rattle.table_rule.specs.Words.{stop_at}
use Rattle.core_table.proofs.PassLemmas.Refused.{not_equal, miss_told}
use Rattle.core_table.proofs.table.CoreTable.stopped.Goals as goal

pub load-requires : goal.load-requires
load-requires g c =
    let self = c.args.self.now in let pass = c.args.pass.now in let job = job_with g.B.WorkBrand.work self.setting in let v = pass.seat.me.0 in
    let laws = c.laws_hold.ensures self.setting refl in (
      c.requires.pass.0,
      omega (arith, self.sized.0, c.stop-at.ensures, c.layout.ensures.workers),
      rw (self.key.0, c.stop-at.ensures, c.layout.ensures.workers) (λ a b d e f. let x = (looks_at_stop job (room_of self.setting) laws _ _ v pass.seat.me.1 pass.worker pass.number.0 pass.number.1 c.requires.pass.2 (known_with g.B.WorkBrand.work c.args.pass.now.seat.me.0 c.args.self.now.setting c.requires.pass.9) c.requires.pass.6) a b d e f in (x.0, x.1, x.2, x.3.0, x.4)),
    )

pub returns-clause-pass : goal.returns-clause-pass
returns-clause-pass g c =
    let old = c.args.pass.now.seat in elim (cases_eq c.load.result 1) [
      | inl e ↦ pass_kept c.args.self.now.setting _ c.args.pass.now.worker old c.load.new.seat (with_step finding_stop old.me.0) c.load.ensures.0 (c.load.ensures.2.0 e) refl refl refl refl refl refl refl refl c.requires.pass
      | inr ne ↦ let t = (c.load.ensures.2.1 ne).1 in pass_kept c.args.self.now.setting _ c.args.pass.now.worker old c.load.new.seat (with_miss t.0 finding_none old.me.0) c.load.ensures.0 t.3 refl refl refl refl refl refl refl refl c.requires.pass
    ]

pub returns-clause-unset : goal.returns-clause-unset
returns-clause-unset g c denied =
    let z = c.load.ensures.2.1 (not_equal c.load.result 1 denied) in let t = z.1 in
    (t.0, (t.2 ∙ z.0, miss_told g.B.WorkBrand.work c.args.self.now c.args.pass.now _ _ t.0 c.requires.pass (c.stop-at.ensures ∙ ap stop_at c.layout.ensures.workers) t.1), ap (λ (m : SeatState). m.0) t.3)
