use Rattle.std.proofs.Common.{rules, refl, ◌+◌, ◌∙◌, ap}
use Rattle.piece_board.specs.declared.view.Content.TheVariants.{Nothing, Input}
use Rattle.piece_board.specs.Desks.{posted_at, after_post}
use Rattle.piece_board.specs.Steps.{SeatAt, with_in_hand, then_desk}
use Rattle.piece_board.proofs.RuleLemmas.Entries.{entry_last}
use Rattle.piece_board.proofs.RuleLemmas.Steps.{takes_own}
use Rattle.piece_board.proofs.CallLemmas.{within, own_place, written, posts_at, post_leaves, is_desk, desk_is}
use Rattle.piece_board.proofs.board.Board.post.Goals as goal

pub load-requires : goal.load-requires
load-requires g c =
    let desk = c.args.desk.now in
    let number = c.number_of-number.ensures in (
      c.requires.desk.seated,
      within _ _ _ _ _ c.args.self.now.places.0 c.requires.desk.below c.requires.place number,
      takes_own g.W.Work.meets _ _ _ _ _ _
          (within _ _ _ _ _ c.args.self.now.places.1 c.requires.desk.below c.requires.place number) desk.idle.1
          (own_place desk.seat.me.0 _ _ _ desk.own.0 desk.own.1 c.requires.place number) c.requires.free,
    )

pub store-requires : goal.store-requires
store-requires g c =
    let desk = c.args.desk.now in
    let number = c.number_of-number.ensures in
    let v = desk.seat.me.0 in
    let k = c.number_of-number.result in (
      search rules,
      within _ _ _ _ _ c.args.self.now.places.0 c.requires.desk.below c.requires.place number,
      posts_at g.W.Work.meets _ _ _ v k
          (within _ _ _ _ _ c.args.self.now.places.1 c.requires.desk.below c.requires.place number) _ _
          (written desk.seat.me c.load.new.seat.me _ (with_in_hand (k + 1) v) k Nothing (Input c.args.input) c.load.ensures.2
          desk.idle.0 c.exchange.ensures.3)
          (own_place v _ _ _ desk.own.0 desk.own.1 c.requires.place number) c.requires.free,
    )

pub invariant_of-desk : goal.invariant_of-desk
invariant_of-desk g c =
    let desk = c.args.desk.now in
    let v = desk.seat.me.0 in
    let own = own_place v _ _ _ desk.own.0 desk.own.1 c.requires.place c.number_of-number.ensures in
    let is = is_desk c.store.new.seat.me (then_desk c.number_of-number.result (after_post c.args.i c.args.input) v) _
    (post_leaves c.args.self.now.table.shared.table_id.slots _ _ desk.seat.me c.load.new.seat.me c.exchange.new.seat.me _
    desk.idle.0 c.args.input own c.load.ensures.2 c.exchange.ensures.3 c.store.ensures.2) refl desk.own.0 desk.own.1 in
    record { idle = is.0; own = is.1 }

pub returns-clause-posted : goal.returns-clause-posted
returns-clause-posted g c =
    let desk = c.args.desk.now in
    let v = desk.seat.me.0 in
    let own = own_place v _ _ _ desk.own.0 desk.own.1 c.requires.place c.number_of-number.ensures in
    desk_is c.store.new.seat.me (then_desk c.number_of-number.result (after_post c.args.i c.args.input) v)
    (post_leaves c.args.self.now.table.shared.table_id.slots _ _ desk.seat.me c.load.new.seat.me c.exchange.new.seat.me _
    desk.idle.0 c.args.input own c.load.ensures.2 c.exchange.ensures.3 c.store.ensures.2)

pub returns-clause-there : goal.returns-clause-there
returns-clause-there g c =
    let desk = c.args.desk.now in
    let v = desk.seat.me.0 in
    let own = own_place v _ _ _ desk.own.0 desk.own.1 c.requires.place c.number_of-number.ensures in
    ap (λ d. posted_at c.args.i d) (desk_is c.store.new.seat.me (then_desk c.number_of-number.result (after_post c.args.i c.args.input) v)
    (post_leaves c.args.self.now.table.shared.table_id.slots _ _ desk.seat.me c.load.new.seat.me c.exchange.new.seat.me _
    desk.idle.0 c.args.input own c.load.ensures.2 c.exchange.ensures.3 c.store.ensures.2))
    ∙ entry_last c.args.i c.args.input v.desk.posted c.requires.free

pub returns-clause-event : goal.returns-clause-event
returns-clause-event g c =
    let desk = c.args.desk.now in
    let v = desk.seat.me.0 in
    let own = own_place v _ _ _ desk.own.0 desk.own.1 c.requires.place c.number_of-number.ensures in
    ap (λ (m : SeatAt _ _). m.0)
    (post_leaves c.args.self.now.table.shared.table_id.slots _ _ desk.seat.me c.load.new.seat.me c.exchange.new.seat.me _
    desk.idle.0 c.args.input own c.load.ensures.2 c.exchange.ensures.3 c.store.ensures.2)
    ∙ (λ e. then_desk (own.number e) (after_post c.args.i c.args.input) v)
