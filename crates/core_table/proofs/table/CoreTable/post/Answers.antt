use Rattle.core_model.specs.Settings.{job_with}
use Rattle.std.proofs.Common.{[], sym, ap, ◌∙◌, arith, refl}
use Rattle.table_rule.specs.declared.slot.Slot.TheVariants as Slots
use Rattle.table_rule.specs.Shows.{room_of}
use Rattle.core_table.proofs.PassLemmas.PassKept.{pass_made, first, swapped}
use Rattle.table_rule.proofs.StepLemmas.NextActs.{may_post}
use Rattle.table_rule.proofs.StepLemmas.CallSteps.{posts_at}
use Rattle.atomic_table.specs.Table.{rest}
use Rattle.table_rule.specs.Plays.{SeatState}
use Rattle.core_table.proofs.ListLemmas.Owed.{remembers_kept}
use Rattle.table_rule.specs.Views.{with_post}
use Rattle.table_rule.specs.CoreWords.{Post}
use Rattle.core_table.proofs.PassLemmas.PassKept.{pass_made, first, carries_posted}
use Rattle.core_table.proofs.table.CoreTable.post.Goals as goal

pub store-requires : goal.store-requires
store-requires g c =
    let self = c.args.self.now in let pass = c.args.pass.now in let job = job_with g.B.WorkBrand.work self.setting in let v = pass.seat.me.0 in
    let laws = c.laws_hold.ensures self.setting refl in
    let may = may_post job laws v.own.call v.own.told v.own.task c.args.call c.requires.pass.5 c.requires.due in
    let own = c.requires.pass.7.free (λ e. let f = sym may.0 ∙ e in absurd (cc)) in (
      c.exchange.ensures.0 ∙ c.requires.pass.0,
      omega (arith, self.sized.0, c.requires.pass.1),
      rw self.key.0 (λ a b d e f. let x = (posts_at job (room_of self.setting) laws _ _ v [] pass.worker pass.number.0 pass.number.1 _ c.args.call
          (swapped pass.seat.me _ v pass.worker Slots.Vacant (Slots.Record c.args.call) [] (λ i. (v, own.1 i)) c.exchange.ensures.3) c.requires.pass.4 may.1 may.0) a b d e f in (x.0, x.1, x.2, x.3.0, x.4)),
    )

pub invariant_of-pass : goal.invariant_of-pass
invariant_of-pass g c =
    let self = c.args.self.now in let pass = c.args.pass.now in let job = job_with g.B.WorkBrand.work self.setting in let v = pass.seat.me.0 in
    let laws = c.laws_hold.ensures self.setting refl in
    let may = may_post job laws v.own.call v.own.told v.own.task c.args.call c.requires.pass.5 c.requires.due in
    let own = c.requires.pass.7.free (λ e. let f = sym may.0 ∙ e in absurd (cc)) in
    let put = swapped pass.seat.me c.exchange.new.seat.me v pass.worker Slots.Vacant (Slots.Record c.args.call) [] (λ i. (v, own.1 i)) c.exchange.ensures.3 in
    let t = c.store.ensures.2 c.args.call (first _ _ _ _ _ put) in
    let told = t.3 ∙ ap (λ (m : SeatState). (with_post c.args.call (Post t.0 t.1) m.0, rest m.1)) put in record {
      number = (ap (λ (m : SeatState). m.0.own.worker) told ∙ pass.number.0, ap (λ (m : SeatState). m.0.to) told ∙ pass.number.1);
      own = (ap (λ (m : SeatState). m.0.own.task) told ∙ pass.own.0, ap (λ (m : SeatState). m.0.own.call) told);
      room = pass.room;
    }

pub returns : goal.returns
returns g c =
    let self = c.args.self.now in let pass = c.args.pass.now in let job = job_with g.B.WorkBrand.work self.setting in let old = pass.seat in let v = old.me.0 in
    let laws = c.laws_hold.ensures self.setting refl in
    let may = may_post job laws v.own.call v.own.told v.own.task c.args.call c.requires.pass.5 c.requires.due in
    let own = c.requires.pass.7.free (λ e. let f = sym may.0 ∙ e in absurd (cc)) in
    let put = swapped old.me c.exchange.new.seat.me v pass.worker Slots.Vacant (Slots.Record c.args.call) [] (λ i. (v, own.1 i)) c.exchange.ensures.3 in
    let t = c.store.ensures.2 c.args.call (first _ _ _ _ _ put) in
    let event = Post t.0 t.1 in
    let told = t.3 ∙ ap (λ (m : SeatState). (with_post c.args.call event m.0, rest m.1)) put in
    record {
      pass = pass_made self.setting _ pass.worker old c.store.new.seat (with_post c.args.call event v) [] (c.store.ensures.0 ∙ c.exchange.ensures.0) told refl refl refl refl refl refl
          (carries_posted pass.worker v c.args.call event own.0) (remembers_kept v (with_post c.args.call event v) _ _ refl c.requires.pass.8) c.requires.pass.10 c.requires.pass;
      posted = (t.0, t.1, ap (λ (m : SeatState). m.0.own.task) (sym put) ∙ t.2, ap (λ (m : SeatState). m.0) told);
    }
