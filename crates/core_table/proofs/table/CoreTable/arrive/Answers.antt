use Rattle.core_model.specs.Settings.{job_with}
use Rattle.std.proofs.Common.{◌≡◌, ◌∙◌, Some, refl, sym, ap, arith}
use Rattle.std.proofs.lemmas.Bool.Decides.{nat_tests}
use Rattle.core_model.specs.Next.{next_act}
use Rattle.core_model.specs.declared.next.Next.TheVariants as acts
use Rattle.sp_order.specs.declared.node.Kind.TheVariants.{ParNode}
use Rattle.table_rule.specs.CoreWords.{Idle, Handed, ArriveFirst, ArriveSecond}
use Rattle.table_rule.specs.Plays.{SeatState}
use Rattle.table_rule.specs.Shows.{room_of}
use Rattle.table_rule.specs.Passes.{with_task}
use Rattle.table_rule.specs.Views.{with_step}
use Rattle.table_rule.proofs.StepLemmas.Sides.{block_in}
use Rattle.table_rule.proofs.StepLemmas.NextActs.{next_stands, next_seen, handed_here}
use Rattle.table_rule.proofs.StepLemmas.NodeSteps.{arrives}
use Rattle.core_table.proofs.PassLemmas.PassKept.{known_with, pass_stepped}
use Rattle.core_table.proofs.table.CoreTable.arrive.Goals.{then-second, else-second}
use Rattle.core_table.proofs.table.CoreTable.arrive.Goals as goal

pub fetch_add-second-requires : goal.fetch_add-second-requires
fetch_add-second-requires g c =
    let self = c.args.self.now in let pass = c.args.pass.now in let job = job_with g.B.WorkBrand.work self.setting in let v = pass.seat.me.0 in
    let laws = c.laws_hold.ensures self.setting refl in
    let act = acts.Arrive c.arrival_due-parent.result c.arrival_due-parent.ensures.0 c.arrival_due-parent.ensures.1 c.arrival_due-parent.ensures.2 in
    let due : next_act job v.own.task v.own.call ≡ Some act = c.arrival_due-parent.ensures.3 in
    let stands = next_stands job laws v.own.call v.own.task act c.requires.pass.5 due in
    let below = block_in job.plan c.arrival_due-parent.result (ParNode c.arrival_due-parent.ensures.0 c.arrival_due-parent.ensures.1) laws.plan stands.1 in (
      c.requires.pass.0,
      omega (arith, self.sized.0, c.mark-at.ensures, c.layout.ensures.workers, c.layout.ensures.nodes, self.key.1, below),
      rw (self.key.0, c.mark-at.ensures, c.layout.ensures.workers, c.layout.ensures.nodes) (λ a b d e f. let x = (arrives job (room_of self.setting) laws _ _ v pass.seat.me.1 pass.worker pass.number.0 pass.number.1 c.requires.pass.2 c.requires.pass.4 (known_with g.B.WorkBrand.work c.args.pass.now.seat.me.0 c.args.self.now.setting c.requires.pass.9)
          _ c.arrival_due-parent.result c.arrival_due-parent.ensures.0 c.arrival_due-parent.ensures.1 c.arrival_due-parent.ensures.2 (omega (arith, self.key.1)) c.requires.pass.5 due c.requires.free) a b d e f in (x.0, x.1, x.2, x.3.0, x.4)),
    )

pub invariant_of-pass : goal.invariant_of-pass
invariant_of-pass g c =
    let self = c.args.self.now in let pass = c.args.pass.now in let job = job_with g.B.WorkBrand.work self.setting in let v = pass.seat.me.0 in
    let act = acts.Arrive c.arrival_due-parent.result c.arrival_due-parent.ensures.0 c.arrival_due-parent.ensures.1 c.arrival_due-parent.ensures.2 in
    let due : next_act job v.own.task v.own.call ≡ Some act = c.arrival_due-parent.ensures.3 in
    let told = c.fetch_add-second.ensures.2 c.arrival_due-parent.result c.arrival_due-parent.ensures.0 c.arrival_due-parent.ensures.1 c.arrival_due-parent.ensures.2 (next_seen job v act (known_with g.B.WorkBrand.work c.args.pass.now.seat.me.0 c.args.self.now.setting c.requires.pass.9) due) in
    elim c.if-second.branch [
      | then-second w ↦
          let is = told.1 (let one = w.if-second in grind (arith, nat_tests)) in record {
            number = (ap (λ (m : SeatState). m.0.own.worker) is ∙ pass.number.0, ap (λ (m : SeatState). m.0.to) is ∙ pass.number.1);
            own = (ap (λ (m : SeatState). m.0.own.task) is ∙ sym w.pass-is, ap (λ (m : SeatState). m.0.own.call) is ∙ pass.own.1);
            room = pass.room;
          }
      | else-second w ↦
          let is = told.0 (let zero = w.if-second in grind (arith, nat_tests)) in record {
            number = (ap (λ (m : SeatState). m.0.own.worker) is ∙ pass.number.0, ap (λ (m : SeatState). m.0.to) is ∙ pass.number.1);
            own = (ap (λ (m : SeatState). m.0.own.task) is ∙ sym w.pass-is, ap (λ (m : SeatState). m.0.own.call) is ∙ pass.own.1);
            room = pass.room;
          }
    ]

pub returns-clause-pass : goal.returns-clause-pass
returns-clause-pass g c =
    let self = c.args.self.now in let pass = c.args.pass.now in let job = job_with g.B.WorkBrand.work self.setting in let v = pass.seat.me.0 in
    let laws = c.laws_hold.ensures self.setting refl in
    let act = acts.Arrive c.arrival_due-parent.result c.arrival_due-parent.ensures.0 c.arrival_due-parent.ensures.1 c.arrival_due-parent.ensures.2 in
    let due : next_act job v.own.task v.own.call ≡ Some act = c.arrival_due-parent.ensures.3 in
    let stands = next_stands job laws v.own.call v.own.task act c.requires.pass.5 due in
    let told = c.fetch_add-second.ensures.2 c.arrival_due-parent.result c.arrival_due-parent.ensures.0 c.arrival_due-parent.ensures.1 c.arrival_due-parent.ensures.2 (next_seen job v act (known_with g.B.WorkBrand.work c.args.pass.now.seat.me.0 c.args.self.now.setting c.requires.pass.9) due) in
    elim c.if-second.branch [
      | then-second w ↦
          let is = told.1 (let one = w.if-second in grind (arith, nat_tests)) in
          pass_stepped self.setting _ pass.worker pass.seat c.fetch_add-second.new.seat (with_step (with_task (ArriveSecond c.arrival_due-parent.result c.arrival_due-parent.ensures.0 c.arrival_due-parent.ensures.1 c.arrival_due-parent.ensures.2) (Handed c.arrival_due-parent.result)) v) c.fetch_add-second.ensures.0 is refl refl refl refl
          (handed_here job laws c.arrival_due-parent.result c.arrival_due-parent.ensures.0 c.arrival_due-parent.ensures.1 stands.1) refl refl refl c.requires.pass
      | else-second w ↦
          let is = told.0 (let zero = w.if-second in grind (arith, nat_tests)) in
          pass_stepped self.setting _ pass.worker pass.seat c.fetch_add-second.new.seat (with_step (with_task (ArriveFirst c.arrival_due-parent.result c.arrival_due-parent.ensures.0 c.arrival_due-parent.ensures.1 c.arrival_due-parent.ensures.2) Idle) v) c.fetch_add-second.ensures.0 is refl refl refl refl tt refl refl refl c.requires.pass
    ]

pub returns-clause-first : goal.returns-clause-first
returns-clause-first g c first p l r n at =
    let self = c.args.self.now in let pass = c.args.pass.now in let job = job_with g.B.WorkBrand.work self.setting in let v = pass.seat.me.0 in
    let told = c.fetch_add-second.ensures.2 p l r n (next_seen job v (acts.Arrive p l r n) (known_with g.B.WorkBrand.work c.args.pass.now.seat.me.0 c.args.self.now.setting c.requires.pass.9) at) in
    ap (λ (m : SeatState). m.0) (told.0 (grind (arith, nat_tests)))

pub returns-clause-second : goal.returns-clause-second
returns-clause-second g c second p l r n at =
    let self = c.args.self.now in let pass = c.args.pass.now in let job = job_with g.B.WorkBrand.work self.setting in let v = pass.seat.me.0 in
    let told = c.fetch_add-second.ensures.2 p l r n (next_seen job v (acts.Arrive p l r n) (known_with g.B.WorkBrand.work c.args.pass.now.seat.me.0 c.args.self.now.setting c.requires.pass.9) at) in
    ap (λ (m : SeatState). m.0) (told.1 (grind (arith, nat_tests)))
