use Rattle.std.proofs.Common.{rules, refl, ◌∙◌, ap, sym, subst}
use Rattle.piece_board.specs.declared.view.Content.TheVariants.{Nothing, Output}
use Rattle.piece_board.specs.Desks.{after_collect, posted_at, after_empty_collect}
use Rattle.piece_board.specs.Steps.{SeatAt, then_desk, then_desk_with, with_miss}
use Rattle.piece_board.proofs.RuleLemmas.Steps.{collects}
use Rattle.piece_board.proofs.CallLemmas.{within, own_place, written, in_hand, read, one_output, it_is_there, puts_own_at, take_leaves, nothing_leaves, is_desk, desk_is, miss_told}
use Rattle.piece_board.proofs.board.Board.collect.Goals as goal

pub compare_exchange-requires : goal.compare_exchange-requires
compare_exchange-requires g c =
    let desk = c.args.desk.now in
    let number = c.number_of-number.ensures in (
      c.requires.desk.seated,
      within _ _ _ _ _ c.args.self.now.places.0 c.requires.desk.below c.requires.place number,
      collects g.W.Work.meets _ _ _ _ _ c.args.i
          (within _ _ _ _ _ c.args.self.now.places.1 c.requires.desk.below c.requires.place number) desk.idle.1
          (own_place desk.seat.me.0 _ _ _ desk.own.0 desk.own.1 c.requires.place number),
    )

pub invariant_of-desk : goal.invariant_of-desk
invariant_of-desk g c =
    let desk = c.args.desk.now in
    let own = own_place desk.seat.me.0 _ _ _ desk.own.0 desk.own.1 c.requires.place c.number_of-number.ensures in
    let t = (c.compare_exchange.ensures.2 c.args.i own.number).1 c.if-compare_exchange-ne3.true in
    let is = is_desk c.compare_exchange.new.seat.me (with_miss t.0 after_empty_collect desk.seat.me.0) _
    (nothing_leaves desk.seat.me _ _ desk.idle.0 t.3) refl desk.own.0 desk.own.1 in
    record { idle = is.0; own = is.1 }

pub returns-then-compare_exchange-ne3-clause-none : goal.returns-then-compare_exchange-ne3-clause-none
returns-then-compare_exchange-ne3-clause-none g c =
    let desk = c.args.desk.now in
    let own = own_place desk.seat.me.0 _ _ _ desk.own.0 desk.own.1 c.requires.place c.number_of-number.ensures in
    let t = (c.compare_exchange.ensures.2 c.args.i own.number).1 c.if-compare_exchange-ne3.true in
    desk_is c.compare_exchange.new.seat.me (with_miss t.0 after_empty_collect desk.seat.me.0)
    (nothing_leaves desk.seat.me _ _ desk.idle.0 t.3)

pub exchange-content-requires : goal.exchange-content-requires
exchange-content-requires g c =
    let desk = c.args.desk.now in
    let own = own_place desk.seat.me.0 _ _ _ desk.own.0 desk.own.1 c.requires.place c.number_of-number.ensures in
    let t = (c.compare_exchange.ensures.2 c.args.i own.number).0 c.if-compare_exchange-ne3.false in (
      search rules,
      (Output t.1, in_hand desk.seat.me c.compare_exchange.new.seat.me _ _ (Output t.1) t.5),
    )

pub load-requires : goal.load-requires
load-requires g c =
    let desk = c.args.desk.now in
    let number = c.number_of-number.ensures in
    let k = c.number_of-number.result in
    let own = own_place desk.seat.me.0 _ _ _ desk.own.0 desk.own.1 c.requires.place number in
    let t = (c.compare_exchange.ensures.2 c.args.i own.number).0 c.if-compare_exchange-ne3.false in
    let v = then_desk_with k (after_collect c.args.i) desk.seat.me.0 in (
      search rules,
      within _ _ _ _ _ c.args.self.now.places.0 c.requires.desk.below c.requires.place number,
      puts_own_at g.W.Work.meets _ _ _ v k
          (within _ _ _ _ _ c.args.self.now.places.1 c.requires.desk.below c.requires.place number) c.args.i
          (written desk.seat.me c.compare_exchange.new.seat.me _ v k (Output t.1) Nothing t.5 desk.idle.0
          c.exchange-content.ensures.3) refl
          (own_place v _ _ _ desk.own.0 desk.own.1 c.requires.place number) t.4,
    )

pub invariant_of-desk-2 : goal.invariant_of-desk-2
invariant_of-desk-2 g c =
    let desk = c.args.desk.now in
    let own = own_place desk.seat.me.0 _ _ _ desk.own.0 desk.own.1 c.requires.place c.number_of-number.ensures in
    let t = (c.compare_exchange.ensures.2 c.args.i own.number).0 c.if-compare_exchange-ne3.false in
    let is = is_desk c.load.new.seat.me (then_desk c.number_of-number.result (after_collect c.args.i) desk.seat.me.0) _
    (take_leaves c.args.self.now.table.shared.table_id.slots _ c.args.i desk.seat.me c.compare_exchange.new.seat.me
    c.exchange-content.new.seat.me _ desk.idle.0 c.load.result (after_collect c.args.i) (Output t.1) t.5 c.exchange-content.ensures.3
    c.load.ensures.2) refl desk.own.0 desk.own.1 in
    record { idle = is.0; own = is.1 }

pub unreachable-requires : goal.unreachable-requires
unreachable-requires g c =
    let desk = c.args.desk.now in
    let own = own_place desk.seat.me.0 _ _ _ desk.own.0 desk.own.1 c.requires.place c.number_of-number.ensures in
    let t = (c.compare_exchange.ensures.2 c.args.i own.number).0 c.if-compare_exchange-ne3.false in
    c.in_default.not-Output t.1
    (sym (read desk.seat.me c.compare_exchange.new.seat.me _ _ (Output t.1) _ t.5 c.exchange-content.ensures.2))

pub returns-clause-some : goal.returns-clause-some
returns-clause-some g c =
    let desk = c.args.desk.now in
    let own = own_place desk.seat.me.0 _ _ _ desk.own.0 desk.own.1 c.requires.place c.number_of-number.ensures in
    let t = (c.compare_exchange.ensures.2 c.args.i own.number).0 c.if-compare_exchange-ne3.false in
    desk_is c.load.new.seat.me (then_desk c.number_of-number.result (after_collect c.args.i) desk.seat.me.0)
    (take_leaves c.args.self.now.table.shared.table_id.slots _ c.args.i desk.seat.me c.compare_exchange.new.seat.me
    c.exchange-content.new.seat.me _ desk.idle.0 c.load.result (after_collect c.args.i) (Output t.1) t.5 c.exchange-content.ensures.3
    c.load.ensures.2)

pub returns-clause-meets : goal.returns-clause-meets
returns-clause-meets g c =
    let desk = c.args.desk.now in
    let own = own_place desk.seat.me.0 _ _ _ desk.own.0 desk.own.1 c.requires.place c.number_of-number.ensures in
    let t = (c.compare_exchange.ensures.2 c.args.i own.number).0 c.if-compare_exchange-ne3.false in
    let out = one_output c.exchange-content.result t.1 c.in-Output.out
    (sym (read desk.seat.me c.compare_exchange.new.seat.me _ _ (Output t.1) _ t.5 c.exchange-content.ensures.2))
    c.in-Output.is in
    it_is_there _ _ t.0 t.2 (subst (λ y. g.W.Work.meets t.0 y) out t.3)

pub returns-clause-free : goal.returns-clause-free
returns-clause-free g c =
    let desk = c.args.desk.now in
    let own = own_place desk.seat.me.0 _ _ _ desk.own.0 desk.own.1 c.requires.place c.number_of-number.ensures in
    let t = (c.compare_exchange.ensures.2 c.args.i own.number).0 c.if-compare_exchange-ne3.false in
    ap (λ d. posted_at c.args.i d) (desk_is c.load.new.seat.me (then_desk c.number_of-number.result (after_collect c.args.i) desk.seat.me.0)
    (take_leaves c.args.self.now.table.shared.table_id.slots _ c.args.i desk.seat.me c.compare_exchange.new.seat.me
    c.exchange-content.new.seat.me _ desk.idle.0 c.load.result (after_collect c.args.i) (Output t.1) t.5
    c.exchange-content.ensures.3 c.load.ensures.2)) ∙ t.4

pub returns-then-compare_exchange-ne3-clause-missed : goal.returns-then-compare_exchange-ne3-clause-missed
returns-then-compare_exchange-ne3-clause-missed g c =
    let desk = c.args.desk.now in
    let own = own_place desk.seat.me.0 _ _ _ desk.own.0 desk.own.1 c.requires.place c.number_of-number.ensures in
    let t = (c.compare_exchange.ensures.2 c.args.i own.number).1 c.if-compare_exchange-ne3.true in (
      t.0,
      (λ e. c.if-compare_exchange-ne3.true (sym t.2 ∙ e)),
      miss_told c.args.self.now desk _ _ _ t.0 c.args.self.now.places.1 own.number t.1,
      ap (λ (m : SeatAt _ _). m.0) t.3,
    )

pub returns-clause-event : goal.returns-clause-event
returns-clause-event g c =
    let desk = c.args.desk.now in
    let own = own_place desk.seat.me.0 _ _ _ desk.own.0 desk.own.1 c.requires.place c.number_of-number.ensures in
    let t = (c.compare_exchange.ensures.2 c.args.i own.number).0 c.if-compare_exchange-ne3.false in
    ap (λ (m : SeatAt _ _). m.0)
    (take_leaves c.args.self.now.table.shared.table_id.slots _ c.args.i desk.seat.me c.compare_exchange.new.seat.me
    c.exchange-content.new.seat.me _ desk.idle.0 c.load.result (after_collect c.args.i) (Output t.1) t.5 c.exchange-content.ensures.3
    c.load.ensures.2)
    ∙ (λ e. then_desk (own.number e) (after_collect c.args.i) desk.seat.me.0)
