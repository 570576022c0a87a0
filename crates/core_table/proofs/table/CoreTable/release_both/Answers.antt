use Rattle.core_model.specs.Settings.{job_with}
use Rattle.std.proofs.Common.{◌≡◌, ℕ, ◌+◌, List, [], ◌∷◌, ◌++◌, sym, ap, ◌∙◌, arith, refl}
use Rattle.atomic_table.specs.Table.{rest}
use Rattle.table_rule.specs.declared.slot.Slot.{Slot}
use Rattle.table_rule.specs.declared.slot.Slot.TheVariants as Slots
use Rattle.table_rule.specs.HoldsSlots.{vacant}
use Rattle.table_rule.specs.Plays.{SeatState}
use Rattle.table_rule.specs.Shows.{reserved, room_of}
use Rattle.table_rule.specs.Passes.{releasing}
use Rattle.table_rule.specs.Views.{with_step}
use Rattle.table_rule.specs.Words.{flag_at}
use Rattle.core_table.proofs.ListLemmas.Owed.{owes_nobody, remembers_none}
use Rattle.core_table.proofs.PassLemmas.PassKept.{held_out, pass_made, first, swapped, turned_to, holder_list, carries_released}
use Rattle.table_rule.proofs.StepLemmas.CallSteps.{releases_both_at}
use Rattle.core_table.proofs.table.CoreTable.release_both.Given.{Over}
use Rattle.core_table.proofs.table.CoreTable.release_both.Goals.{After-turn, After-exchange}
use Rattle.core_table.proofs.table.CoreTable.release_both.Goals as goal

-- the slot with the book, which stands behind that of the shop
abbrev behind : (g : Over) → After-turn g → List (ℕ × Slot)
behind g c = (c.args.self.now.setting.workers + 1, Slots.Book (reserved c.requires.due.0.book (room_of c.args.self.now.setting))) ∷ []

owed_to_none : (g : Over) (c : After-turn g) → c.requires.due.0.owed ≡ []
owed_to_none g c = owes_nobody c.requires.due.0 (c.requires.pass.8.holds c.requires.due.0 c.requires.due.1).2 c.requires.due.2.answered

-- the seat once the slot of the shop stands in front
turned : (g : Over) (c : After-turn g) → c.turn.new.self.me ≡ (c.args.pass.now.seat.me.0, (c.shop_slot-home.result, Slots.Vacant) ∷ behind g c)
turned g c =
    let self = c.args.self.now in let pass = c.args.pass.now in let me = pass.seat.me in let workers = self.setting.workers in
    let h = c.requires.due.0 in let holds = c.requires.due.1 in
    let m = c.requires.pass.8.holds h holds in
    let list = holder_list pass.worker workers (room_of self.setting) me h holds (sym m.1 ∙ c.requires.unpublished) c.requires.pass.2 c.requires.pass.6 c.requires.pass.7 ∙ ap (λ (o : List ℕ). (me.0, behind g c ++ (workers, Slots.Vacant) ∷ vacant o)) (owed_to_none g c) in
    turned_to me c.turn.new.self.me me.0 (behind g c ++ (workers, Slots.Vacant) ∷ []) list c.turn.ensures.2 ∙ ap (λ (i : ℕ). (me.0, (i, Slots.Vacant) ∷ behind g c)) (sym (c.shop_slot-home.ensures ∙ c.layout-layout.ensures.workers))

-- the seat once the shop lies there
put : (g : Over) (c : After-exchange g) (xs : List (ℕ × Slot)) → c.turn.new.self.me ≡ (c.args.pass.now.seat.me.0, (c.shop_slot-home.result, Slots.Vacant) ∷ xs) → c.exchange.new.seat.me ≡ (c.args.pass.now.seat.me.0, (c.shop_slot-home.result, Slots.Shop c.args.shop) ∷ xs)
put g c xs is = swapped c.turn.new.self.me c.exchange.new.seat.me c.args.pass.now.seat.me.0 c.shop_slot-home.result Slots.Vacant (Slots.Shop c.args.shop) xs is c.exchange.ensures.3

pub exchange-requires : goal.exchange-requires
exchange-requires g c =
    let at = (goal.at.exchange-requires g c).After-turn in
    (c.turn.ensures.0 ∙ c.requires.pass.0, (Slots.Vacant, first c.turn.new.self.me c.args.pass.now.seat.me.0 c.shop_slot-home.result Slots.Vacant (behind g at) (turned g at)))

pub store-requires : goal.store-requires
store-requires g c =
    let at = goal.at.store-requires g c in
    let lies = put g at.After-exchange (behind g at.After-turn) (turned g at.After-turn) in
    let self = c.args.self.now in let pass = c.args.pass.now in let v = pass.seat.me.0 in
    let h = c.requires.due.0 in let due = c.requires.due.2 in
    let word = c.flag-at.ensures ∙ ap flag_at c.layout-layout.ensures.workers in
    let place = c.shop_slot-home.ensures ∙ c.layout-layout.ensures.workers in
    let laws = c.laws_hold.ensures self.setting refl in (
      c.exchange.ensures.0 ∙ (c.turn.ensures.0 ∙ c.requires.pass.0),
      omega (arith, self.sized.0, word),
      rw (self.key.0, word) (λ a b d e f. let x = (releases_both_at (job_with g.B.WorkBrand.work self.setting) (room_of self.setting) laws _ _ v [] pass.worker pass.number.0 pass.number.1 _ h c.args.shop (lies ∙ ap (λ (i : ℕ). (v, (i, Slots.Shop c.args.shop) ∷ behind g at.After-turn)) place) c.requires.due.1 due.looked due.answered c.requires.due.3) a b d e f in (x.0, x.1, x.2, x.3.0, x.4)),
    )

pub returns : goal.returns
returns g c =
    let at = goal.at.returns g c in
    let self = c.args.self.now in let pass = c.args.pass.now in let old = pass.seat in let v = old.me.0 in
    let h = c.requires.due.0 in let holds = c.requires.due.1 in
    let last = c.store.ensures.2 ∙ ap (λ (m : SeatState). (with_step releasing m.0, rest (rest m.1))) (put g at.After-exchange (behind g at.After-turn) (turned g at.After-turn)) in
    record {
      pass = pass_made self.setting _ pass.worker old c.store.new.seat (with_step releasing v) [] (c.store.ensures.0 ∙ (c.exchange.ensures.0 ∙ c.turn.ensures.0)) last refl refl refl refl refl refl
          (carries_released pass.worker v (held_out pass.worker old.me h c.requires.pass.7 holds)) (remembers_none (with_step releasing v) _ _ refl ((c.requires.pass.8.holds h holds).0 ∙ owed_to_none g at.After-turn)) tt c.requires.pass;
      released = ap (λ (m : SeatState). m.0) last;
    }
