use Rattle.core_model.specs.Settings.{job_with}
use Rattle.std.proofs.Common.{rules, ◌≡◌, ℕ, ◌+◌, List, [], ◌∷◌, ◌++◌, true, suc, ◌-◌, take, drop, length, subst, sym, ap, ◌∙◌, arith, refl}
use Rattle.atomic_table.specs.Table.{rest}
use Rattle.table_rule.specs.declared.slot.Slot.{Slot}
use Rattle.table_rule.specs.declared.slot.Slot.TheVariants as Slots
use Rattle.core_table.specs.Code.Rotations.{rotated, IsFirstAt}
use Rattle.table_rule.specs.HoldsSlots.{vacant}
use Rattle.table_rule.specs.Plays.{SeatState}
use Rattle.table_rule.specs.Shows.{among, room_of}
use Rattle.table_rule.specs.Passes.{without_first, in_hold, after_answer, answering}
use Rattle.table_rule.specs.Views.{with_step}
use Rattle.table_rule.proofs.TableLemmas.Moved.{record_took}
use Rattle.core_table.proofs.ListLemmas.Owed.{to_front, to_places, owes_answered, remembers_hold}
use Rattle.core_table.proofs.PassLemmas.PassKept.{held_out, looks_at, looks_after, pass_made, first, swapped, holder_after, carries_answered}
use Rattle.table_rule.proofs.StepLemmas.CallSteps.{answers_at}
use Rattle.core_table.proofs.table.CoreTable.answer.Given.{Over}
use Rattle.core_table.proofs.table.CoreTable.answer.Goals.{After-rotate_by, After-exchange, After-rotate_by-2}
use Rattle.core_table.proofs.table.CoreTable.answer.Goals as goal

-- the slots behind that of worker `u`, once this stands in front
abbrev behind : (g : Over) → After-rotate_by g → List (ℕ × Slot)
behind g c =
    let owed = c.requires.due.0.owed in
    (vacant (drop (suc c.index_of-at.result) owed) ++ (c.args.self.now.setting.workers, Slots.Vacant) ∷ []) ++ vacant (take c.index_of-at.result owed)

owed_is : (g : Over) (c : After-rotate_by g) → c.args.pass.now.owed.items ≡ c.requires.due.0.owed
owed_is g c = (c.requires.pass.8.holds c.requires.due.0 c.requires.due.2).0

-- its slot is the first of its own
first_of : (g : Over) (c : After-rotate_by g) → IsFirstAt c.requires.due.0.owed c.args.u c.index_of-at.result
first_of g c = subst (λ (l : List ℕ). IsFirstAt l c.args.u c.index_of-at.result) (c.as_slice.ensures.value ∙ owed_is g c) c.index_of-at.ensures

-- the seat once the slot stands in front
in_front : (g : Over) (c : After-rotate_by g) → c.rotate_by.new.seat.me ≡ (c.args.pass.now.seat.me.0, (c.args.u, Slots.Vacant) ∷ behind g c)
in_front g c =
    let pass = c.args.pass.now in let v = pass.seat.me.0 in let workers = c.args.self.now.setting.workers in let h = c.requires.due.0 in
    c.rotate_by.ensures.me ∙ (ap (λ (s : SeatState). (s.0, rotated c.index_of-at.result s.1)) (holder_after pass.worker workers pass.seat.me h h.owed c.requires.due.2 c.requires.due.3 refl c.requires.pass.2 c.requires.pass.7)
    ∙ ap (λ l. (v, l)) (to_front h.owed c.args.u c.index_of-at.result (workers, Slots.Vacant) (first_of g c)))

-- the seat once the receipt lies there
put : (g : Over) (c : After-exchange g) (xs : List (ℕ × Slot)) → c.rotate_by.new.seat.me ≡ (c.args.pass.now.seat.me.0, (c.args.u, Slots.Vacant) ∷ xs)
    → c.exchange.new.seat.me ≡ (c.args.pass.now.seat.me.0, (c.args.u, Slots.Receipt c.args.receipt) ∷ xs)
put g c xs is = swapped c.rotate_by.new.seat.me c.exchange.new.seat.me c.args.pass.now.seat.me.0 c.args.u Slots.Vacant (Slots.Receipt c.args.receipt) xs is c.exchange.ensures.3

-- the seat once the worker is answered, and the slots stand as before
answered : (g : Over) (c : After-rotate_by-2 g) → let h = c.requires.due.0 in let v = c.args.pass.now.seat.me.0 in let last : ℕ × Slot = (c.args.self.now.setting.workers, Slots.Vacant) in
    IsFirstAt h.owed c.args.u c.index_of-at.result → c.args.pass.now.owed.items ≡ h.owed
    → c.exchange.new.seat.me ≡ (v, (c.args.u, Slots.Receipt c.args.receipt) ∷ (vacant (drop (suc c.index_of-at.result) h.owed) ++ last ∷ []) ++ vacant (take c.index_of-at.result h.owed))
    → c.rotate_by-2.new.seat.me ≡ (with_step (answering c.args.u c.args.receipt) v, vacant (without_first c.args.u h.owed) ++ last ∷ [])
answered g c at owed is =
    let h = c.requires.due.0 in let u = c.args.u in let w = with_step (answering u c.args.receipt) c.args.pass.now.seat.me.0 in
    let t = c.store.ensures.2 in
    let n = c.len.result - c.index_of-at.result in
    let here = t.2 c.args.receipt (first _ _ _ _ _ is) ∙ ap (λ (m : SeatState). (with_step (answering u c.args.receipt) m.0, rest m.1)) is in
    let left : n ≡ length h.owed - c.index_of-at.result = let a = c.args.pass.now.room.1 in let b = ap (λ (l : List ℕ). length l) owed in omega (arith, a, b, c.len.ensures) in
    c.rotate_by-2.ensures.me ∙ (ap (λ (s : SeatState). (s.0, rotated n s.1)) here ∙ ap (λ l. (w, l)) (to_places h.owed u c.index_of-at.result n (c.args.self.now.setting.workers, Slots.Vacant) at left))

pub index_of-at-requires : goal.index_of-at-requires
index_of-at-requires g c =
    let due = c.requires.due in let m = c.requires.pass.8.holds due.0 due.2 in
    subst (λ (l : List ℕ). among l c.args.u ≡ true) (sym (c.as_slice.ensures.value ∙ m.0)) (m.2.each c.args.u (record_took due.0.taken c.args.u due.1 due.4) due.5)

pub exchange-requires : goal.exchange-requires
exchange-requires g c =
    let at = (goal.at.exchange-requires g c).After-rotate_by in
    (c.rotate_by.ensures.table.0 ∙ c.requires.pass.0, (Slots.Vacant, first c.rotate_by.new.seat.me c.args.pass.now.seat.me.0 c.args.u Slots.Vacant (behind g at) (in_front g at)))

pub store-requires : goal.store-requires
store-requires g c =
    let at = goal.at.store-requires g c in
    let turned = at.After-rotate_by in
    let self = c.args.self.now in let pass = c.args.pass.now in let v = pass.seat.me.0 in let workers = self.setting.workers in
    let due = c.requires.due in let h = due.0 in
    let looked_at = (c.requires.pass.8.holds h due.2).2.below c.args.u (record_took h.taken c.args.u due.1 due.4) in
    let looks = looks_at workers v.own.hold h c.requires.pass.10 due.2 in
    let laws = c.laws_hold.ensures self.setting refl in (
      c.exchange.ensures.0 ∙ (c.rotate_by.ensures.table.0 ∙ c.requires.pass.0),
      omega (arith, self.sized.0, looked_at, looks),
      rw self.key.0 (λ a b d e f. let x = (answers_at (job_with g.B.WorkBrand.work self.setting) (room_of self.setting) laws _ _ v (behind g turned) pass.worker pass.number.0 pass.number.1 _ h c.args.u due.1 c.args.receipt (put g at.After-exchange (behind g turned) (in_front g turned)) due.2 due.3 due.4 due.5 due.6) a b d e f in (x.0, x.1, x.2, x.3.0, x.4)),
    )

pub invariant_of-pass : goal.invariant_of-pass
invariant_of-pass g c =
    let at = goal.at.invariant_of-pass g c in
    let turned = at.After-rotate_by in
    let done = answered g at.After-rotate_by-2 (first_of g turned) (owed_is g turned) (put g at.After-exchange (behind g turned) (in_front g turned)) in
    let pass = c.args.pass.now in
    record {
      number = (ap (λ (m : SeatState). m.0.own.worker) done ∙ pass.number.0, ap (λ (m : SeatState). m.0.to) done ∙ pass.number.1);
      own = (ap (λ (m : SeatState). m.0.own.task) done ∙ pass.own.0, ap (λ (m : SeatState). m.0.own.call) done ∙ pass.own.1);
      room = search rules;
    }

pub returns : goal.returns
returns g c =
    let at = goal.at.returns g c in
    let turned = at.After-rotate_by in
    let done = answered g at.After-rotate_by-2 (first_of g turned) (owed_is g turned) (put g at.After-exchange (behind g turned) (in_front g turned)) in
    let self = c.args.self.now in let pass = c.args.pass.now in let old = pass.seat in let v = old.me.0 in let workers = self.setting.workers in let u = c.args.u in
    let due = c.requires.due in let h = due.0 in let holds = due.2 in let there = due.3 in
    let m = c.requires.pass.8.holds h holds in
    let w = with_step (answering u c.args.receipt) v in
    record {
      pass = pass_made self.setting _ pass.worker old c.rotate_by-2.new.seat w (vacant (without_first u h.owed) ++ (workers, Slots.Vacant) ∷ []) (c.rotate_by-2.ensures.table.0 ∙ (c.store.ensures.0 ∙ (c.exchange.ensures.0 ∙ c.rotate_by.ensures.table.0))) done refl refl refl refl refl refl
          (carries_answered pass.worker workers u v h c.args.receipt (held_out pass.worker old.me h c.requires.pass.7 holds) holds c.requires.pass.2 there)
          (remembers_hold w _ _ (after_answer u h) (ap (in_hold (after_answer u)) holds) (c.remove.ensures.by_index.2 ∙ (ap (λ (l : List ℕ). take c.index_of-at.result l ++ drop (c.index_of-at.result + 1) l) m.0 ∙ (let next : c.index_of-at.result + 1 ≡ suc c.index_of-at.result = omega arith in ap (λ (k : ℕ). take c.index_of-at.result h.owed ++ drop k h.owed) next ∙ sym (first_of g turned).rest))) m.1 (owes_answered h u there m.2))
          (looks_after workers (after_answer u) v.own.hold h holds (looks_at workers v.own.hold h c.requires.pass.10 holds)) c.requires.pass;
      answered = ap (λ (m : SeatState). m.0) done;
    }
