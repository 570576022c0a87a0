use Rattle.core_model.specs.Settings.{job_with}
use Rattle.std.proofs.Common.{◌≡◌, ◌∙◌, Some, refl, sym, ap, arith}
use Rattle.core_model.specs.Next.{next_act}
use Rattle.core_model.specs.declared.next.Next.TheVariants as acts
use Rattle.table_rule.specs.Plays.{SeatState}
use Rattle.table_rule.specs.Shows.{room_of}
use Rattle.table_rule.specs.Passes.{opening}
use Rattle.table_rule.specs.Views.{with_step}
use Rattle.table_rule.proofs.StepLemmas.NextActs.{next_stands, next_seen}
use Rattle.table_rule.proofs.StepLemmas.NodeSteps.{opens}
use Rattle.core_table.proofs.PassLemmas.PassKept.{known_with, pass_stepped}
use Rattle.core_table.proofs.table.CoreTable.open_node.Goals as goal

pub store-requires : goal.store-requires
store-requires g c =
    let self = c.args.self.now in let pass = c.args.pass.now in let job = job_with g.B.WorkBrand.work self.setting in let v = pass.seat.me.0 in
    let laws = c.laws_hold.ensures self.setting refl in
    let act = acts.Open c.side_due-side.result.node c.side_due-side.result.task c.side_due-side.ensures.0 in
    let due : next_act job v.own.task v.own.call ≡ Some act = c.side_due-side.ensures.1 in
    let stands = next_stands job laws v.own.call v.own.task act c.requires.pass.5 due in let below = stands.below in (
      c.requires.pass.0,
      omega (arith, self.sized.0, c.node-at.ensures, c.layout.ensures.workers, self.key.1, below),
      rw (self.key.0, c.node-at.ensures, c.layout.ensures.workers) (λ a b d e f. let x = (opens job (room_of self.setting) laws _ _ v pass.seat.me.1 pass.worker pass.number.0 pass.number.1 c.requires.pass.2 c.requires.pass.4 (known_with g.B.WorkBrand.work c.args.pass.now.seat.me.0 c.args.self.now.setting c.requires.pass.9)
          c.side_due-side.result.node c.side_due-side.result.task c.side_due-side.ensures.0 c.requires.pass.5 due c.requires.free) a b d e f in (x.0, x.1, x.2, x.3.0, x.4)),
    )

pub invariant_of-pass : goal.invariant_of-pass
invariant_of-pass g c =
    let self = c.args.self.now in let pass = c.args.pass.now in let job = job_with g.B.WorkBrand.work self.setting in let v = pass.seat.me.0 in
    let act = acts.Open c.side_due-side.result.node c.side_due-side.result.task c.side_due-side.ensures.0 in
    let due : next_act job v.own.task v.own.call ≡ Some act = c.side_due-side.ensures.1 in
    let is = c.store.ensures.2 c.side_due-side.result.node c.side_due-side.result.task c.side_due-side.ensures.0 (next_seen job v act (known_with g.B.WorkBrand.work c.args.pass.now.seat.me.0 c.args.self.now.setting c.requires.pass.9) due) in record {
      number = (ap (λ (m : SeatState). m.0.own.worker) is ∙ pass.number.0, ap (λ (m : SeatState). m.0.to) is ∙ pass.number.1);
      own = (ap (λ (m : SeatState). m.0.own.task) is, ap (λ (m : SeatState). m.0.own.call) is ∙ pass.own.1);
      room = pass.room;
    }

pub returns-clause-pass : goal.returns-clause-pass
returns-clause-pass g c =
    let self = c.args.self.now in let pass = c.args.pass.now in let job = job_with g.B.WorkBrand.work self.setting in let v = pass.seat.me.0 in
    let laws = c.laws_hold.ensures self.setting refl in
    let act = acts.Open c.side_due-side.result.node c.side_due-side.result.task c.side_due-side.ensures.0 in
    let due : next_act job v.own.task v.own.call ≡ Some act = c.side_due-side.ensures.1 in
    let stands = next_stands job laws v.own.call v.own.task act c.requires.pass.5 due in
    let is = c.store.ensures.2 c.side_due-side.result.node c.side_due-side.result.task c.side_due-side.ensures.0 (next_seen job v act (known_with g.B.WorkBrand.work c.args.pass.now.seat.me.0 c.args.self.now.setting c.requires.pass.9) due) in
    pass_stepped self.setting _ pass.worker pass.seat c.store.new.seat (with_step (opening c.side_due-side.result.node c.side_due-side.ensures.0 c.side_due-side.result.task) v) c.store.ensures.0 is refl refl refl refl stands.here refl refl refl c.requires.pass

pub returns-clause-opened : goal.returns-clause-opened
returns-clause-opened g c n task event at =
    let self = c.args.self.now in let pass = c.args.pass.now in let job = job_with g.B.WorkBrand.work self.setting in let v = pass.seat.me.0 in
    let is = c.store.ensures.2 n task event (next_seen job v (acts.Open n task event) (known_with g.B.WorkBrand.work c.args.pass.now.seat.me.0 c.args.self.now.setting c.requires.pass.9) at) in
    let both : Some (acts.Open n task event) ≡ Some (acts.Open c.side_due-side.result.node c.side_due-side.result.task c.side_due-side.ensures.0) = sym at ∙ c.side_due-side.ensures.1 in
    let same : c.side_due-side.result.node ≡ n = cc in
    (same, ap (λ (m : SeatState). m.0) is)
