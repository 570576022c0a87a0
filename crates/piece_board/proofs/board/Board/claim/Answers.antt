use Rattle.std.proofs.Common.{rules, refl, ◌∙◌, ap, sym, Some, arith}
use Rattle.piece_board.specs.declared.view.Content.TheVariants.{Nothing, Input}
use Rattle.piece_board.specs.declared.view.View.{View}
use Rattle.piece_board.specs.Entries.{entry_at}
use Rattle.piece_board.specs.Desks.{number_of, claimed_at, after_claim, after_refusal}
use Rattle.piece_board.specs.Steps.{SeatAt, then_desk, then_desk_with, with_miss}
use Rattle.piece_board.proofs.RuleLemmas.Entries.{entry_first}
use Rattle.piece_board.proofs.RuleLemmas.Steps.{claims}
use Rattle.piece_board.proofs.CallLemmas.{within, written, in_hand, read, one_input, puts_claim_at, take_leaves, nothing_leaves, is_desk, desk_is, miss_told}
use Rattle.piece_board.proofs.board.Board.claim.Goals as goal

pub compare_exchange-requires : goal.compare_exchange-requires
compare_exchange-requires g c =
    let desk = c.args.desk.now in
    let number = c.number_of-number.ensures in
    let there = c.if-not-has.ensures in (
      c.requires.desk.seated,
      within _ _ _ _ _ c.args.self.now.places.0 there.0 there.1 number,
      claims g.W.Work.meets _ _ _ _ _ c.args.row c.args.i
          (within _ _ _ _ _ c.args.self.now.places.1 there.0 there.1 number) desk.idle.1 there.1 number,
    )

pub invariant_of-desk : goal.invariant_of-desk
invariant_of-desk g c =
    let desk = c.args.desk.now in
    let there = c.if-not-has.ensures in
    let t = (c.compare_exchange.ensures.2 c.args.row c.args.i there.1 c.number_of-number.ensures).1
    c.if-compare_exchange-ne1.true in
    let is = is_desk c.compare_exchange.new.seat.me (with_miss t.0 (after_refusal c.args.row c.args.i) desk.seat.me.0) _
    (nothing_leaves desk.seat.me _ _ desk.idle.0 t.3) refl desk.own.0 desk.own.1 in
    record { idle = is.0; own = is.1 }

pub exchange-content-requires : goal.exchange-content-requires
exchange-content-requires g c =
    let desk = c.args.desk.now in
    let there = c.if-not-has.ensures in
    let t = (c.compare_exchange.ensures.2 c.args.row c.args.i there.1 c.number_of-number.ensures).0
    c.if-compare_exchange-ne1.false in (
      search rules,
      (Input t.0, in_hand desk.seat.me c.compare_exchange.new.seat.me _ _ (Input t.0) t.1),
    )

pub load-requires : goal.load-requires
load-requires g c =
    let desk = c.args.desk.now in
    let number = c.number_of-number.ensures in
    let k = c.number_of-number.result in
    let there = c.if-not-has.ensures in
    let t = (c.compare_exchange.ensures.2 c.args.row c.args.i there.1 number).0 c.if-compare_exchange-ne1.false in
    let v = then_desk_with k (after_claim c.args.row c.args.i t.0) desk.seat.me.0 in (
      search rules,
      within _ _ _ _ _ c.args.self.now.places.0 there.0 there.1 number,
      puts_claim_at g.W.Work.meets _ _ _ v k (within _ _ _ _ _ c.args.self.now.places.1 there.0 there.1 number) t.0
          (written desk.seat.me c.compare_exchange.new.seat.me _ v k (Input t.0) Nothing t.1 desk.idle.0
          c.exchange-content.ensures.3) refl
          (ap (λ j. entry_at j v.desk.claims) number
          ∙ entry_first (number_of c.args.row c.args.i) t.0 desk.seat.me.0.desk.claims),
    )

pub invariant_of-desk-2 : goal.invariant_of-desk-2
invariant_of-desk-2 g c =
    let desk = c.args.desk.now in
    let there = c.if-not-has.ensures in
    let t = (c.compare_exchange.ensures.2 c.args.row c.args.i there.1 c.number_of-number.ensures).0
    c.if-compare_exchange-ne1.false in
    let is = is_desk c.load.new.seat.me (then_desk c.number_of-number.result (after_claim c.args.row c.args.i t.0) desk.seat.me.0) _
    (take_leaves c.args.self.now.table.shared.table_id.slots _ c.args.i desk.seat.me c.compare_exchange.new.seat.me
    c.exchange-content.new.seat.me _ desk.idle.0 c.load.result (after_claim c.args.row c.args.i t.0) (Input t.0) t.1
    c.exchange-content.ensures.3 c.load.ensures.2) refl desk.own.0 desk.own.1 in
    record { idle = is.0; own = is.1 }

pub unreachable-requires : goal.unreachable-requires
unreachable-requires g c =
    let desk = c.args.desk.now in
    let there = c.if-not-has.ensures in
    let t = (c.compare_exchange.ensures.2 c.args.row c.args.i there.1 c.number_of-number.ensures).0
    c.if-compare_exchange-ne1.false in
    c.in_default.not-Input t.0
    (sym (read desk.seat.me c.compare_exchange.new.seat.me _ _ (Input t.0) _ t.1 c.exchange-content.ensures.2))

pub returns-clause-some : goal.returns-clause-some
returns-clause-some g c =
    let desk = c.args.desk.now in
    let there = c.if-not-has.ensures in
    let t = (c.compare_exchange.ensures.2 c.args.row c.args.i there.1 c.number_of-number.ensures).0
    c.if-compare_exchange-ne1.false in
    let input = one_input c.exchange-content.result t.0 c.in-Input.input
    (sym (read desk.seat.me c.compare_exchange.new.seat.me _ _ (Input t.0) _ t.1 c.exchange-content.ensures.2))
    c.in-Input.is in
    desk_is c.load.new.seat.me (then_desk c.number_of-number.result (after_claim c.args.row c.args.i t.0) desk.seat.me.0)
    (take_leaves c.args.self.now.table.shared.table_id.slots _ c.args.i desk.seat.me c.compare_exchange.new.seat.me
    c.exchange-content.new.seat.me _ desk.idle.0 c.load.result (after_claim c.args.row c.args.i t.0) (Input t.0) t.1
    c.exchange-content.ensures.3 c.load.ensures.2) ∙ ap (λ x. after_claim c.args.row c.args.i x desk.seat.me.0.desk) input

pub returns-clause-claim : goal.returns-clause-claim
returns-clause-claim g c =
    let desk = c.args.desk.now in
    let there = c.if-not-has.ensures in
    let t = (c.compare_exchange.ensures.2 c.args.row c.args.i there.1 c.number_of-number.ensures).0
    c.if-compare_exchange-ne1.false in
    let input = one_input c.exchange-content.result t.0 c.in-Input.input
    (sym (read desk.seat.me c.compare_exchange.new.seat.me _ _ (Input t.0) _ t.1 c.exchange-content.ensures.2))
    c.in-Input.is in
    let now = desk_is c.load.new.seat.me (then_desk c.number_of-number.result (after_claim c.args.row c.args.i t.0) desk.seat.me.0)
    (take_leaves c.args.self.now.table.shared.table_id.slots _ c.args.i desk.seat.me c.compare_exchange.new.seat.me
    c.exchange-content.new.seat.me _ desk.idle.0 c.load.result (after_claim c.args.row c.args.i t.0) (Input t.0) t.1
    c.exchange-content.ensures.3 c.load.ensures.2) in (
      there.0,
      refl,
      ap (λ d. claimed_at c.args.row c.args.i d) now
          ∙ entry_first (number_of c.args.row c.args.i) t.0 desk.seat.me.0.desk.claims ∙ ap Some input,
    )

pub returns-then-not-has-clause-none : goal.returns-then-not-has-clause-none
returns-then-not-has-clause-none g c = ap (λ (v : View _). v.desk) c.refuse.ensures.refused.2

pub returns-then-not-has-clause-missed : goal.returns-then-not-has-clause-missed
returns-then-not-has-clause-missed g c =
    let t = c.refuse.ensures.refused in let outside = c.if-not-has.ensures in
    (t.0, ((λ low below. let far = outside low in absurd (omega (arith, far, below))), (λ _. t.1)), t.2)

pub returns-then-compare_exchange-ne1-clause-none : goal.returns-then-compare_exchange-ne1-clause-none
returns-then-compare_exchange-ne1-clause-none g c =
    let desk = c.args.desk.now in
    let there = c.if-not-has.ensures in
    let t = (c.compare_exchange.ensures.2 c.args.row c.args.i there.1 c.number_of-number.ensures).1
    c.if-compare_exchange-ne1.true in
    ap (λ (m : SeatAt _ _). m.0.desk) t.3

pub returns-then-compare_exchange-ne1-clause-missed : goal.returns-then-compare_exchange-ne1-clause-missed
returns-then-compare_exchange-ne1-clause-missed g c =
    let desk = c.args.desk.now in
    let there = c.if-not-has.ensures in
    let ne = c.if-compare_exchange-ne1.true in
    let t = (c.compare_exchange.ensures.2 c.args.row c.args.i there.1 c.number_of-number.ensures).1 ne in (
      t.0,
      (
        (λ _ _. ((λ e. ne (sym t.2 ∙ e)), miss_told c.args.self.now desk _ _ _ t.0 c.args.self.now.places.1 c.number_of-number.ensures t.1)),
        λ outside. let far = outside there.0 in absurd (omega (arith, far, there.1)),
      ),
      ap (λ (m : SeatAt _ _). m.0) t.3,
    )

pub returns-clause-event : goal.returns-clause-event
returns-clause-event g c =
    let desk = c.args.desk.now in
    let there = c.if-not-has.ensures in
    let number = c.number_of-number.ensures in
    let t = (c.compare_exchange.ensures.2 c.args.row c.args.i there.1 number).0 c.if-compare_exchange-ne1.false in
    let input = one_input c.exchange-content.result t.0 c.in-Input.input
    (sym (read desk.seat.me c.compare_exchange.new.seat.me _ _ (Input t.0) _ t.1 c.exchange-content.ensures.2))
    c.in-Input.is in
    ap (λ (m : SeatAt _ _). m.0)
    (take_leaves c.args.self.now.table.shared.table_id.slots _ c.args.i desk.seat.me c.compare_exchange.new.seat.me
    c.exchange-content.new.seat.me _ desk.idle.0 c.load.result (after_claim c.args.row c.args.i t.0) (Input t.0) t.1
    c.exchange-content.ensures.3 c.load.ensures.2)
    ∙ (λ e. then_desk (number e) (after_claim c.args.row c.args.i (input e)) desk.seat.me.0)
