use Rattle.core_model.specs.Settings.{job_with}
use Rattle.std.proofs.Common.{◌∙◌, refl, ap, arith}
use Rattle.core_model.specs.declared.next.Next.TheVariants as acts
use Rattle.table_rule.specs.Plays.{SeatState}
use Rattle.table_rule.specs.Shows.{room_of}
use Rattle.table_rule.specs.Passes.{with_task}
use Rattle.table_rule.specs.Views.{with_step}
use Rattle.table_rule.proofs.StepLemmas.NextActs.{next_seen}
use Rattle.table_rule.proofs.StepLemmas.NodeSteps.{draws_due}
use Rattle.core_table.proofs.PassLemmas.PassKept.{known_with, pass_stepped}
use Rattle.core_table.proofs.PassLemmas.Ticks.{ticks}
use Rattle.core_table.proofs.table.CoreTable.tick.Goals as goal

pub fetch_add-tick-requires : goal.fetch_add-tick-requires
fetch_add-tick-requires g c =
    let self = c.args.self.now in let pass = c.args.pass.now in let job = job_with g.B.WorkBrand.work self.setting in let v = pass.seat.me.0 in
    let laws = c.laws_hold.ensures self.setting refl in (
      c.requires.pass.0,
      omega (arith, self.sized.0, c.tick-at.ensures, c.layout.ensures.workers),
      rw (self.key.0, c.tick-at.ensures, c.layout.ensures.workers)
          (λ a b d e f. let x = (draws_due job (room_of self.setting) laws _ _ v pass.seat.me.1 pass.worker pass.number.0 pass.number.1 c.requires.pass.2 c.requires.pass.4 (known_with g.B.WorkBrand.work c.args.pass.now.seat.me.0 c.args.self.now.setting c.requires.pass.9)
          c.requires.pass.5 c.requires.due c.requires.free) a b d e f in (x.0, x.1, x.2, x.3.0, x.4)),
    )

pub invariant_of-pass : goal.invariant_of-pass
invariant_of-pass g c =
    let self = c.args.self.now in let pass = c.args.pass.now in let job = job_with g.B.WorkBrand.work self.setting in let v = pass.seat.me.0 in
    let laws = c.laws_hold.ensures self.setting refl in
    let t = ticks job laws v pass.seat.me.1 c.fetch_add-tick.result c.fetch_add-tick.new.seat.me pass.task c.ticked-pass.result (known_with g.B.WorkBrand.work c.args.pass.now.seat.me.0 c.args.self.now.setting c.requires.pass.9) c.requires.pass.5 c.requires.due pass.own.0
    c.fetch_add-tick.ensures.2 c.ticked-pass.ensures.started c.ticked-pass.ensures.ended in record {
      number = (ap (λ (m : SeatState). m.0.own.worker) t.1 ∙ pass.number.0, ap (λ (m : SeatState). m.0.to) t.1 ∙ pass.number.1);
      own = (ap (λ (m : SeatState). m.0.own.task) t.1, ap (λ (m : SeatState). m.0.own.call) t.1 ∙ pass.own.1);
      room = pass.room;
    }

pub returns-clause-pass : goal.returns-clause-pass
returns-clause-pass g c =
    let self = c.args.self.now in let pass = c.args.pass.now in let job = job_with g.B.WorkBrand.work self.setting in let v = pass.seat.me.0 in
    let laws = c.laws_hold.ensures self.setting refl in
    let t = ticks job laws v pass.seat.me.1 c.fetch_add-tick.result c.fetch_add-tick.new.seat.me pass.task c.ticked-pass.result (known_with g.B.WorkBrand.work c.args.pass.now.seat.me.0 c.args.self.now.setting c.requires.pass.9) c.requires.pass.5 c.requires.due pass.own.0
    c.fetch_add-tick.ensures.2 c.ticked-pass.ensures.started c.ticked-pass.ensures.ended in
    pass_stepped self.setting _ pass.worker pass.seat c.fetch_add-tick.new.seat (with_step (with_task t.0 c.ticked-pass.result) v) c.fetch_add-tick.ensures.0 t.1 refl refl refl refl t.2 refl refl refl c.requires.pass

pub returns-clause-started : goal.returns-clause-started
returns-clause-started g c n leaf at =
    let self = c.args.self.now in let pass = c.args.pass.now in let job = job_with g.B.WorkBrand.work self.setting in let v = pass.seat.me.0 in
    ap (λ (m : SeatState). m.0) (c.fetch_add-tick.ensures.2.1 n leaf (next_seen job v (acts.Start n leaf) (known_with g.B.WorkBrand.work c.args.pass.now.seat.me.0 c.args.self.now.setting c.requires.pass.9) at))

pub returns-clause-ended : goal.returns-clause-ended
returns-clause-ended g c n start at =
    let self = c.args.self.now in let pass = c.args.pass.now in let job = job_with g.B.WorkBrand.work self.setting in let v = pass.seat.me.0 in
    ap (λ (m : SeatState). m.0) (c.fetch_add-tick.ensures.2.2 n start (next_seen job v (acts.End n start) (known_with g.B.WorkBrand.work c.args.pass.now.seat.me.0 c.args.self.now.setting c.requires.pass.9) at))
