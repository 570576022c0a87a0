use Rattle.core_model.specs.Settings.{job_with}
use Rattle.std.proofs.Common.{true, ◌≡◌, ℕ, List, ◌<◌, [], ◌∷◌, ◌++◌, length, subst, sym, ap, ◌∙◌, arith, refl}
use Rattle.atomic_table.specs.Table.{rest}
use Rattle.batch_history.specs.Reserved.{ReservedView}
use Rattle.batch_history.specs.Book.{IsHistory}
use Rattle.table_rule.specs.declared.slot.Slot.{Slot}
use Rattle.table_rule.specs.declared.slot.Slot.TheVariants as Slots
use Rattle.table_rule.specs.Batches.{IsPublishDue}
use Rattle.table_rule.specs.HoldsSlots.{vacant}
use Rattle.table_rule.specs.Plays.{SeatState}
use Rattle.table_rule.specs.Shows.{reserved, room_of}
use Rattle.table_rule.specs.Words.{count_at, book_at}
use Rattle.table_rule.specs.Passes.{in_hold, after_publish, publishing}
use Rattle.table_rule.specs.Views.{with_step}
use Rattle.core_table.proofs.PassLemmas.PassKept.{held_out, looks_at, looks_after, pass_made, first, swapped, turned_to, carries_published, holder_list, found_book, books}
use Rattle.core_table.proofs.ListLemmas.Owed.{remembers_hold, owes_published}
use Rattle.table_rule.proofs.StepLemmas.PublishStep.{admits, publishes_at}
use Rattle.core_table.proofs.table.CoreTable.publish.Given.{Over}
use Rattle.core_table.proofs.table.CoreTable.publish.Goals.{After-load, In-Book, After-exchange-2, After-turn}
use Rattle.core_table.proofs.table.CoreTable.publish.Goals as goal

-- the book as the holder has it in hand, and the vacant slots behind it
abbrev book : (g : Over) → After-load g → ReservedView
book g c = reserved c.requires.due.0.book (room_of c.args.self.now.setting)

abbrev behind : (g : Over) → After-load g → List (ℕ × Slot)
behind g c = (c.args.self.now.setting.workers, Slots.Vacant) ∷ vacant c.requires.due.0.owed

-- the seat once it has looked at the count of batches
looked : (g : Over) (c : After-load g) → c.load.new.seat.me ≡ (c.args.pass.now.seat.me.0, (c.book_slot-home.result, Slots.Book (book g c)) ∷ behind g c)
looked g c =
    let self = c.args.self.now in let pass = c.args.pass.now in let old = pass.seat in let workers = self.setting.workers in
    let h = c.requires.due.0 in let due = c.requires.due.2 in
    let place = c.book_slot-home.ensures ∙ ap book_at c.layout-layout.ensures.workers in
    c.load.ensures.2.0 ∙ (holder_list pass.worker workers (room_of self.setting) old.me h c.requires.due.1 due.early c.requires.pass.2 c.requires.pass.6 c.requires.pass.7 ∙ ap (λ (i : ℕ). (old.me.0, (i, Slots.Book (book g c)) ∷ behind g c)) (sym place))

-- the book that it finds in hand is that of the holder
same : (g : Over) (c : In-Book g) (b : ReservedView) (xs : List (ℕ × Slot)) → c.load.new.seat.me ≡ (c.args.pass.now.seat.me.0, (c.book_slot-home.result, Slots.Book b) ∷ xs) → b ≡ c.in-Book.book
same g c b xs is = books b c.in-Book.book (found_book c.load.new.seat.me _ _ c.exchange.result b xs _ is c.exchange.ensures.2 ∙ c.in-Book.is)

-- the seat once the book, with the batch behind it, is put back
put_back : (g : Over) (c : After-exchange-2 g) (b : ReservedView) (xs : List (ℕ × Slot)) → c.load.new.seat.me ≡ (c.args.pass.now.seat.me.0, (c.book_slot-home.result, Slots.Book b) ∷ xs) → b ≡ c.in-Book.book
    → c.exchange-2.new.seat.me ≡ (c.args.pass.now.seat.me.0, (c.book_slot-home.result, Slots.Book (reserved (b.batches ++ c.args.batch ∷ []) b.capacity)) ∷ xs)
put_back g c b xs is found =
    let v = c.args.pass.now.seat.me.0 in let at = c.book_slot-home.result in
    swapped c.exchange.new.seat.me c.exchange-2.new.seat.me v at Slots.Vacant (Slots.Book _) xs (swapped c.load.new.seat.me c.exchange.new.seat.me v at (Slots.Book b) Slots.Vacant xs is c.exchange.ensures.3) c.exchange-2.ensures.3
    ∙ ap (λ (r : ReservedView). (v, (at, Slots.Book r) ∷ xs)) (c.append.ensures ∙ ap (λ (r : ReservedView). reserved (r.batches ++ c.args.batch ∷ []) r.capacity) (sym found))

-- the seat once the batch is published, and the slot of the book is behind the others
published : (g : Over) (c : After-turn g) → let h = c.requires.due.0 in let v = c.args.pass.now.seat.me.0 in let workers = c.args.self.now.setting.workers in
    c.exchange-2.new.seat.me ≡ (v, (c.book_slot-home.result, Slots.Book (reserved (h.book ++ c.args.batch ∷ []) (room_of c.args.self.now.setting))) ∷ (workers, Slots.Vacant) ∷ vacant h.owed)
    → c.turn.new.self.me ≡ (with_step (publishing c.args.batch) v, vacant h.owed ++ (workers, Slots.Vacant) ∷ [])
published g c is =
    let pass = c.args.pass.now in let v = pass.seat.me.0 in let h = c.requires.due.0 in let workers = c.args.self.now.setting.workers in
    let me = c.exchange-2.new.seat.me in
    let place = c.book_slot-home.ensures ∙ ap book_at c.layout-layout.ensures.workers in
    let told = c.fetch_add.ensures.2 h c.args.batch (ap (λ (m : SeatState). m.0.own.hold) is ∙ c.requires.due.1)
    (first _ _ _ _ _ is ∙ (ap (λ (r : ℕ). (c.book_slot-home.result, Slots.Book (reserved (h.book ++ c.args.batch ∷ []) r)) ∷ rest me.1) (sym (ap (λ (m : SeatState). m.0.room) is ∙ c.requires.pass.6))
    ∙ ap (λ (i : ℕ). (i, Slots.Book (reserved (h.book ++ c.args.batch ∷ []) me.0.room)) ∷ rest me.1) (place ∙ sym (ap (λ (m : SeatState). book_at m.0.workers) is ∙ ap book_at c.requires.pass.2)))) in
    turned_to _ c.turn.new.self.me (with_step (publishing c.args.batch) v) ((workers, Slots.Vacant) ∷ vacant h.owed) (told ∙ ap (λ (m : SeatState). (with_step (publishing c.args.batch) m.0, rest m.1)) is) c.turn.ensures.2

pub load-requires : goal.load-requires
load-requires g c =
    let self = c.args.self.now in let pass = c.args.pass.now in let job = job_with g.B.WorkBrand.work self.setting in let v = pass.seat.me.0 in
    let laws = c.laws_hold.ensures self.setting refl in (
      c.requires.pass.0,
      omega (arith, self.sized.0, c.batch_count-at.ensures, c.layout-layout.ensures.workers),
      rw self.key.0 (λ a b d e f. let x = (admits job (room_of self.setting) laws _ _ v pass.seat.me.1 pass.worker pass.number.0 pass.number.1 _ c.requires.pass.2 c.requires.pass.6 self.few.1) a b d e f in (x.0, x.1, x.2, x.3.0, x.4)),
    )

pub exchange-requires : goal.exchange-requires
exchange-requires g c =
    let pass = c.args.pass.now in
    let at = (goal.at.exchange-requires g c).After-load in
    (c.load.ensures.0 ∙ c.requires.pass.0, (Slots.Book (book g at), first c.load.new.seat.me pass.seat.me.0 c.book_slot-home.result (Slots.Book (book g at)) (behind g at) (looked g at)))

pub unreachable-requires : goal.unreachable-requires
unreachable-requires g c =
    let at = (goal.at.unreachable-requires g c).After-load in
    c.in_default.not-Book (book g at) (sym (found_book c.load.new.seat.me c.args.pass.now.seat.me.0 c.book_slot-home.result c.exchange.result (book g at) (behind g at) _ (looked g at) c.exchange.ensures.2))

pub append-requires : goal.append-requires
append-requires g c =
    let at = goal.at.append-requires g c in
    let found = same g at.In-Book (book g at.After-load) (behind g at.After-load) (looked g at.After-load) in
    let h = c.requires.due.0 in
    let admitted = c.load.ensures.2.1 h c.args.batch c.requires.due.1 (subst (λ (n : ℕ). IsPublishDue n h c.args.batch) (sym c.requires.pass.2) c.requires.due.2) in
    record {
      room = subst (λ (b : ReservedView). length b.batches < b.capacity) found (omega (arith, admitted.1, c.requires.pass.6));
      history = subst (λ (b : ReservedView). IsHistory (b.batches ++ c.args.batch ∷ [])) found admitted.0;
    }

pub fetch_add-requires : goal.fetch_add-requires
fetch_add-requires g c =
    let at = goal.at.fetch_add-requires g c in
    let load = at.After-load in
    let back = put_back g at.After-exchange-2 (book g load) (behind g load) (looked g load) (same g at.In-Book (book g load) (behind g load) (looked g load)) in
    let self = c.args.self.now in let pass = c.args.pass.now in let job = job_with g.B.WorkBrand.work self.setting in let v = pass.seat.me.0 in let room = room_of self.setting in
    let h = c.requires.due.0 in
    let word = c.batch_count-at.ensures ∙ ap count_at c.layout-layout.ensures.workers in
    let place = c.book_slot-home.ensures ∙ ap book_at c.layout-layout.ensures.workers in
    let laws = c.laws_hold.ensures self.setting refl in (
      c.exchange-2.ensures.0 ∙ (c.exchange.ensures.0 ∙ (c.load.ensures.0 ∙ c.requires.pass.0)),
      omega (arith, self.sized.0, word),
      rw (self.key.0, word) (λ a b d e f. let x = (publishes_at job room laws _ _ v (behind g load) pass.worker pass.number.0 pass.number.1 _ h c.args.batch (back ∙ ap (λ (i : ℕ). (v, (i, Slots.Book (reserved (h.book ++ c.args.batch ∷ []) room)) ∷ behind g load)) place)
          c.requires.due.1 c.requires.pass.6 c.requires.due.2) a b d e f in (x.0, x.1, x.2, x.3.0, x.4)),
    )

pub invariant_of-pass : goal.invariant_of-pass
invariant_of-pass g c =
    let at = goal.at.invariant_of-pass g c in
    let load = at.After-load in
    let last = published g at.After-turn (put_back g at.After-exchange-2 (book g load) (behind g load) (looked g load) (same g at.In-Book (book g load) (behind g load) (looked g load))) in
    let pass = c.args.pass.now in
    record {
      number = (ap (λ (m : SeatState). m.0.own.worker) last ∙ pass.number.0, ap (λ (m : SeatState). m.0.to) last ∙ pass.number.1);
      own = (ap (λ (m : SeatState). m.0.own.task) last ∙ pass.own.0, ap (λ (m : SeatState). m.0.own.call) last ∙ pass.own.1);
      room = pass.room;
    }

pub returns : goal.returns
returns g c =
    let at = goal.at.returns g c in
    let load = at.After-load in
    let last = published g at.After-turn (put_back g at.After-exchange-2 (book g load) (behind g load) (looked g load) (same g at.In-Book (book g load) (behind g load) (looked g load))) in
    let self = c.args.self.now in let pass = c.args.pass.now in let old = pass.seat in let v = old.me.0 in let workers = self.setting.workers in
    let h = c.requires.due.0 in let holds = c.requires.due.1 in
    let w = with_step (publishing c.args.batch) v in
    record {
      pass = pass_made self.setting _ pass.worker old c.turn.new.self w (vacant h.owed ++ (workers, Slots.Vacant) ∷ [])
          (c.turn.ensures.0 ∙ (c.fetch_add.ensures.0 ∙ (c.exchange-2.ensures.0 ∙ (c.exchange.ensures.0 ∙ c.load.ensures.0)))) last refl refl refl refl refl refl
          (carries_published pass.worker workers v h c.args.batch (held_out pass.worker old.me h c.requires.pass.7 holds) holds c.requires.pass.2)
          (let m = c.requires.pass.8.holds h holds in remembers_hold w _ true (after_publish c.args.batch h) (ap (in_hold (after_publish c.args.batch)) holds) m.0 refl (owes_published h c.args.batch m.2))
          (looks_after workers (after_publish c.args.batch) v.own.hold h holds (looks_at workers v.own.hold h c.requires.pass.10 holds)) c.requires.pass;
      published = ap (λ (m : SeatState). m.0) last;
    }
