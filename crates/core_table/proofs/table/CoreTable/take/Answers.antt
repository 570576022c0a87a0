use Rattle.core_model.specs.Settings.{job_with}
use Rattle.std.proofs.Common.{List, Some, ◌≡◌, ℕ, [], ◌∷◌, ◌++◌, length, subst, sym, ap, ◌∙◌, arith, refl}
use Rattle.core_model.specs.declared.status.CallState.TheVariants.{Out}
use Rattle.table_rule.specs.declared.slot.Slot.TheVariants as Slots
use Rattle.table_rule.specs.Shows.{room_of}
use Rattle.core_table.proofs.PassLemmas.PassKept.{known_with, room_with, held_out, looks_after, pass_made, first, swapped, turned_to, carries_took, carries_passed, found_slot, same_record}
use Rattle.table_rule.specs.declared.view.HoldView.{HoldView}
use Rattle.table_rule.specs.TracksHold.{Owes}
use Rattle.core_table.proofs.ListLemmas.Owed.{remembers_hold, owes_passed, owes_taken}
use Rattle.std.proofs.lemmas.Option.{same_Some}
use Rattle.table_rule.specs.Passes.{call_by, in_hold, after_take, after_pass, taking, skipping}
use Rattle.table_rule.specs.Views.{with_step, with_miss}
use Rattle.table_rule.proofs.StepLemmas.CallSteps.{looks}
use Rattle.core_model.specs.State.{CoreJob}
use Rattle.core_model.specs.Operations.{op_of}
use Rattle.table_rule.specs.Plays.{SeatState, IsNewCall}
use Rattle.core_table.proofs.PassLemmas.Refused.{miss_told}
use Rattle.core_table.proofs.table.CoreTable.take.Goals as goal

pub compare_exchange-seen-requires : goal.compare_exchange-seen-requires
compare_exchange-seen-requires g c =
    let self = c.args.self.now in let pass = c.args.pass.now in let job = job_with g.B.WorkBrand.work self.setting in let v = pass.seat.me.0 in
    let laws = c.laws_hold.ensures self.setting refl in
    let due = c.requires.due in (
      c.requires.pass.0,
      omega (arith, self.sized.0, due.2.1),
      rw self.key.0 (λ a b d e f. let x = (looks job (room_of self.setting) laws _ _ v pass.seat.me.1 pass.worker pass.number.0 pass.number.1 due.0 c.args.u (c.requires.pass.6 ∙ room_with g.B.WorkBrand.work self.setting) c.requires.pass.6 (known_with g.B.WorkBrand.work c.args.pass.now.seat.me.0 c.args.self.now.setting c.requires.pass.9) due.1 due.2.0 due.2.1) a b d e f in (x.0, x.1, x.2, x.3.0, x.4)),
    )

pub exchange-slot-requires : goal.exchange-slot-requires
exchange-slot-requires g c =
    let e = c.compare_exchange-seen.ensures.2 in let t = e.3 c.if-seen-ne-PENDING.false in
    (c.compare_exchange-seen.ensures.0 ∙ c.requires.pass.0, (Slots.Record t.0, first _ _ _ _ _ t.3))

pub returns-then-seen-ne-PENDING-clause-pass : goal.returns-then-seen-ne-PENDING-clause-pass
returns-then-seen-ne-PENDING-clause-pass g c =
    let old = c.args.pass.now.seat in let e = c.compare_exchange-seen.ensures.2 in
    let t = e.4 c.if-seen-ne-PENDING.true in
    let w = with_miss t.0 (skipping c.args.u c.compare_exchange-seen.result) old.me.0 in
    let out : old.me.0.own.call ≡ Out = held_out c.args.pass.now.worker old.me e.0 c.requires.pass.7 e.1 in
    pass_made c.args.self.now.setting _ c.args.pass.now.worker old c.compare_exchange-seen.new.seat w old.me.1 c.compare_exchange-seen.ensures.0 t.3 refl refl refl refl refl refl
    (carries_passed c.args.pass.now.worker c.args.u old.me.0 t.0 e.0 c.compare_exchange-seen.result old.me.1 out e.1 c.requires.pass.7)
    (let m = c.requires.pass.8.holds e.0 e.1 in remembers_hold w _ _ (after_pass c.compare_exchange-seen.result e.0) (ap (in_hold (after_pass c.compare_exchange-seen.result)) e.1) m.0 m.1 (owes_passed e.0 c.compare_exchange-seen.result m.2))
    (looks_after c.args.self.now.setting.workers (after_pass c.compare_exchange-seen.result) old.me.0.own.hold e.0 e.1 (let due = c.requires.due in let at = ap (λ (h : HoldView). h.looks) (same_Some due.0 e.0 (sym due.1 ∙ e.1)) in omega (arith, at, due.2.0, due.2.1))) c.requires.pass

pub returns-clause-pass : goal.returns-clause-pass
returns-clause-pass g c =
    let old = c.args.pass.now.seat in let u = c.args.u in
    let e = c.compare_exchange-seen.ensures.2 in let t = e.3 c.if-seen-ne-PENDING.false in
    let w = with_step (taking (call_by u t.0)) old.me.0 in
    let out : old.me.0.own.call ≡ Out = held_out c.args.pass.now.worker old.me e.0 c.requires.pass.7 e.1 in
    let emptied = swapped _ _ w u (Slots.Record t.0) Slots.Vacant old.me.1 t.3 c.exchange-slot.ensures.3 in
    let last = turned_to _ c.turn.new.self.me w ((u, Slots.Vacant) ∷ old.me.1) emptied c.turn.ensures.2 in
    pass_made c.args.self.now.setting _ c.args.pass.now.worker old c.turn.new.self w (old.me.1 ++ (u, Slots.Vacant) ∷ [])
    (c.turn.ensures.0 ∙ (c.exchange-slot.ensures.0 ∙ c.compare_exchange-seen.ensures.0)) last refl refl refl refl refl refl
    (carries_took c.args.pass.now.worker u old.me.0 e.0 t.0 old.me.1 out e.1 e.2 c.requires.pass.7)
    (let m = c.requires.pass.8.holds e.0 e.1 in
    let due = c.requires.due in
    let at : u ≡ e.0.looks = due.2.0 ∙ ap (λ (h : HoldView). h.looks) (same_Some due.0 e.0 (sym due.1 ∙ e.1)) in
    remembers_hold w _ _ (after_take (call_by u t.0) e.0) (ap (in_hold (after_take (call_by u t.0))) e.1) (c.push_reserved.ensures.items ∙ ap (λ l. l ++ u ∷ []) m.0) m.1
    (subst (λ (n : ℕ). Owes (after_take (call_by n t.0) e.0)) (sym at) (owes_taken e.0 t.0 e.2 m.2)))
    (looks_after c.args.self.now.setting.workers (after_take (call_by u t.0)) old.me.0.own.hold e.0 e.1 (let due = c.requires.due in let at = ap (λ (h : HoldView). h.looks) (same_Some due.0 e.0 (sym due.1 ∙ e.1)) in omega (arith, at, due.2.0, due.2.1))) c.requires.pass

pub push_reserved-requires : goal.push_reserved-requires
push_reserved-requires g c =
    let pass = c.args.pass.now in
    let due = c.requires.due in
    let m = c.requires.pass.8.holds due.0 due.1 in
    let few = m.2.few in let long = ap (λ (l : List ℕ). length l) m.0 in
    omega (arith, few, long, due.2.0, due.2.1, c.args.self.now.few.1, pass.room.0, pass.room.1)

pub returns-clause-took : goal.returns-clause-took
returns-clause-took g c =
    let old = c.args.pass.now.seat in let u = c.args.u in
    let e = c.compare_exchange-seen.ensures.2 in let t = e.3 c.if-seen-ne-PENDING.false in
    let w = with_step (taking (call_by u t.0)) old.me.0 in
    let found = found_slot c.compare_exchange-seen.new.seat.me w u c.exchange-slot.result (Slots.Record t.0) old.me.1 _ t.3 c.exchange-slot.ensures.2 in
    let same : t.0 ≡ c.in-Record.call = same_record t.0 c.in-Record.call (found ∙ c.in-Record.is) in
    let emptied = swapped _ _ w u (Slots.Record t.0) Slots.Vacant old.me.1 t.3 c.exchange-slot.ensures.3 in
    let last = turned_to _ c.turn.new.self.me w ((u, Slots.Vacant) ∷ old.me.1) emptied c.turn.ensures.2 in
    rw (sym same) (
      e.0,
      e.1,
      subst (λ (room : ℕ). IsNewCall room e.0 t.0) c.requires.pass.6 t.1,
      subst (λ (j : CoreJob). op_of j e.0.book t.0.leaf ≡ Some t.0.op) (known_with g.B.WorkBrand.work c.args.pass.now.seat.me.0 c.args.self.now.setting c.requires.pass.9) t.2,
      ap (λ (m : SeatState). m.0) last,
    )

pub returns-then-seen-ne-PENDING-clause-passed : goal.returns-then-seen-ne-PENDING-clause-passed
returns-then-seen-ne-PENDING-clause-passed g c =
    let ne = c.if-seen-ne-PENDING.true in let t = c.compare_exchange-seen.ensures.2.4 ne in (
      t.0,
      ((λ e. ne (sym t.2 ∙ e)), miss_told g.B.WorkBrand.work c.args.self.now c.args.pass.now _ _ t.0 c.requires.pass refl t.1),
      ap (λ (m : SeatState). m.0) t.3 ∙ ap (λ (n : ℕ). with_miss t.0 (skipping c.args.u n) c.args.pass.now.seat.me.0) (sym t.2),
    )
