use Rattle.core_model.specs.Settings.{job_with}
use Rattle.std.proofs.Common.{false, ◌≡◌, ℕ, ◌+◌, [], ◌∷◌, sym, ap, ◌∙◌, arith, refl}
use Rattle.core_model.specs.declared.status.CallState.TheVariants.{Out}
use Rattle.table_rule.specs.declared.slot.Slot.TheVariants as Slots
use Rattle.table_rule.specs.Shows.{reserved, room_of}
use Rattle.core_table.proofs.PassLemmas.PassKept.{known_with, pass_kept, pass_made, first, swapped, turned_to, carries_won}
use Rattle.core_table.proofs.PassLemmas.Refused.{miss_told}
use Rattle.core_table.proofs.ListLemmas.Owed.{remembers_hold, owes_new}
use Rattle.table_rule.specs.Passes.{new_hold, winning, refusing_win}
use Rattle.table_rule.specs.Plays.{SeatState}
use Rattle.table_rule.specs.Words.{flag_at, book_at}
use Rattle.table_rule.specs.Views.{with_step, with_miss}
use Rattle.table_rule.proofs.StepLemmas.CallSteps.{wins}
use Rattle.core_table.proofs.table.CoreTable.win.Given.{Over}
use Rattle.core_table.proofs.table.CoreTable.win.Goals.{After-shop_slot-home}
use Rattle.core_table.proofs.table.CoreTable.win.Goals as goal

pub compare_exchange-requires : goal.compare_exchange-requires
compare_exchange-requires g c =
    let self = c.args.self.now in let pass = c.args.pass.now in let job = job_with g.B.WorkBrand.work self.setting in let v = pass.seat.me.0 in
    let laws = c.laws_hold.ensures self.setting refl in (
      c.requires.pass.0,
      omega (arith, self.sized.0, c.flag-at.ensures, c.layout-layout.ensures.workers),
      rw (self.key.0, c.flag-at.ensures, c.layout-layout.ensures.workers) (λ a b d e f. let x = (wins job (room_of self.setting) laws _ _ v pass.seat.me.1 pass.worker pass.number.0 pass.number.1 c.requires.pass.2 c.requires.trapped c.requires.pass.6 (known_with g.B.WorkBrand.work c.args.pass.now.seat.me.0 c.args.self.now.setting c.requires.pass.9)) a b d e f in (x.0, x.1, x.2, x.3.0, x.4)),
    )

pub returns-then-compare_exchange-ne0-clause-pass : goal.returns-then-compare_exchange-ne0-clause-pass
returns-then-compare_exchange-ne0-clause-pass g c =
    let old = c.args.pass.now.seat in
    let t = c.compare_exchange.ensures.2.1 c.if-compare_exchange-ne0.true in
    pass_kept c.args.self.now.setting _ c.args.pass.now.worker old c.compare_exchange.new.seat (with_miss t.0 refusing_win old.me.0) c.compare_exchange.ensures.0 t.3 refl refl refl refl refl refl refl refl c.requires.pass

pub returns-then-compare_exchange-ne0-clause-lost : goal.returns-then-compare_exchange-ne0-clause-lost
returns-then-compare_exchange-ne0-clause-lost g c =
    let ne = c.if-compare_exchange-ne0.true in let t = c.compare_exchange.ensures.2.1 ne in
    (t.0, ((λ e. ne (sym t.2 ∙ e)), miss_told g.B.WorkBrand.work c.args.self.now c.args.pass.now _ _ t.0 c.requires.pass (c.flag-at.ensures ∙ ap flag_at c.layout-layout.ensures.workers) t.1), ap (λ (m : SeatState). m.0) t.3)

-- the seat once the flag is won, by the number of the shop's slot
won : (g : Over) (c : After-shop_slot-home g) → let v = c.args.pass.now.seat.me.0 in let t = c.compare_exchange.ensures.2.0 c.if-compare_exchange-ne0.false in
    c.compare_exchange.new.seat.me ≡ (with_step (winning t.1) v, (c.shop_slot-home.result, Slots.Shop t.1) ∷ (book_at v.workers, Slots.Book (reserved t.1 v.room)) ∷ c.args.pass.now.seat.me.1)
won g c =
    let v = c.args.pass.now.seat.me.0 in let t = c.compare_exchange.ensures.2.0 c.if-compare_exchange-ne0.false in
    let place = c.shop_slot-home.ensures ∙ c.layout-layout.ensures.workers in
    t.2 ∙ ap (λ (i : ℕ). (with_step (winning t.1) v, (i, Slots.Shop t.1) ∷ (book_at v.workers, Slots.Book (reserved t.1 v.room)) ∷ c.args.pass.now.seat.me.1)) (c.requires.pass.2 ∙ sym place)

pub exchange-slot-requires : goal.exchange-slot-requires
exchange-slot-requires g c =
    let at = (goal.at.exchange-slot-requires g c).After-shop_slot-home in
    let t = c.compare_exchange.ensures.2.0 c.if-compare_exchange-ne0.false in
    (c.compare_exchange.ensures.0 ∙ c.requires.pass.0, (Slots.Shop t.1, first _ _ _ _ _ (won g at)))

pub returns-clause-pass : goal.returns-clause-pass
returns-clause-pass g c =
    let old = c.args.pass.now.seat in let workers = c.args.self.now.setting.workers in
    let home = c.shop_slot-home.result in let place = c.shop_slot-home.ensures ∙ c.layout-layout.ensures.workers in
    let t = c.compare_exchange.ensures.2.0 c.if-compare_exchange-ne0.false in
    let w = with_step (winning t.1) old.me.0 in let book = reserved t.1 old.me.0.room in
    let out : old.me.0.own.call ≡ Out = c.requires.trapped in
    let nothing : old.me.1 ≡ [] = c.requires.pass.7.trapped out t.0 in
    let behind = book_at old.me.0.workers in
    let held = won g (goal.at.returns-clause-pass g c).After-shop_slot-home ∙ ap (λ l. (w, (home, Slots.Shop t.1) ∷ (behind, Slots.Book book) ∷ l)) nothing in
    let emptied = swapped _ _ w home (Slots.Shop t.1) Slots.Vacant ((behind, Slots.Book book) ∷ []) held c.exchange-slot.ensures.3 in
    let last = turned_to _ c.turn.new.self.me w ((home, Slots.Vacant) ∷ (behind, Slots.Book book) ∷ []) emptied c.turn.ensures.2
    ∙ (ap (λ (i : ℕ). (w, (book_at i, Slots.Book book) ∷ (home, Slots.Vacant) ∷ [])) c.requires.pass.2 ∙ ap (λ (i : ℕ). (w, (workers + 1, Slots.Book book) ∷ (i, Slots.Vacant) ∷ [])) place) in
    pass_made c.args.self.now.setting _ c.args.pass.now.worker old c.turn.new.self w ((workers + 1, Slots.Book book) ∷ (workers, Slots.Vacant) ∷ [])
    (c.turn.ensures.0 ∙ (c.exchange-slot.ensures.0 ∙ c.compare_exchange.ensures.0)) last refl refl refl refl refl refl
    (carries_won c.args.pass.now.worker workers old.me.0 t.1 out c.requires.pass.2)
    (remembers_hold w _ false (new_hold t.1) refl (c.requires.pass.8.none t.0) refl (owes_new t.1)) (omega arith) c.requires.pass
