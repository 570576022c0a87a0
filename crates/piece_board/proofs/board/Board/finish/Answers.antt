use Rattle.std.proofs.Common.{rules, refl, ◌+◌, ◌<◌, ◌∙◌, ap, arith}
use Rattle.limits.specs.declared.TheConstants.{PLACES}
use Rattle.piece_board.specs.declared.view.Content.TheVariants.{Nothing, Output}
use Rattle.piece_board.specs.Entries.{entry_at}
use Rattle.piece_board.specs.Desks.{after_finish}
use Rattle.piece_board.specs.Boards.{claimed_by}
use Rattle.piece_board.specs.Steps.{SeatAt, with_in_hand, then_desk}
use Rattle.piece_board.proofs.RuleLemmas.Steps.{takes_claim}
use Rattle.piece_board.proofs.CallLemmas.{within, written, what_is_there, finishes_at, finish_leaves, is_desk, desk_is}
use Rattle.piece_board.proofs.board.Board.finish.Goals as goal

pub load-requires : goal.load-requires
load-requires g c =
    let desk = c.args.desk.now in
    let number = c.number_of-number.ensures in
    let below : c.args.claim.place < PLACES = omega (arith, c.args.claim.within) in
    let mine = what_is_there (claimed_by c.args.claim desk) _ c.requires.meets in (
      c.requires.desk.seated,
      within _ _ _ _ _ c.args.self.now.places.0 c.requires.claim below number,
      takes_claim g.W.Work.meets _ _ _ _ _ mine.0 (within _ _ _ _ _ c.args.self.now.places.1 c.requires.claim below number)
          desk.idle.1 (ap (λ k. entry_at k desk.seat.me.0.desk.claims) number ∙ mine.1),
    )

pub store-requires : goal.store-requires
store-requires g c =
    let desk = c.args.desk.now in
    let v = desk.seat.me.0 in
    let k = c.number_of-number.result in
    let number = c.number_of-number.ensures in
    let below : c.args.claim.place < PLACES = omega (arith, c.args.claim.within) in
    let mine = what_is_there (claimed_by c.args.claim desk) _ c.requires.meets in (
      search rules,
      within _ _ _ _ _ c.args.self.now.places.0 c.requires.claim below number,
      finishes_at g.W.Work.meets _ _ _ v k (within _ _ _ _ _ c.args.self.now.places.1 c.requires.claim below number)
          c.args.claim.row c.args.claim.place mine.0 c.args.out
          (written desk.seat.me c.load.new.seat.me _ (with_in_hand (k + 1) v) k Nothing (Output c.args.out) c.load.ensures.2
          desk.idle.0 c.exchange.ensures.3) below number (ap (λ k. entry_at k v.desk.claims) number ∙ mine.1) mine.2,
    )

pub invariant_of-desk : goal.invariant_of-desk
invariant_of-desk g c =
    let desk = c.args.desk.now in
    let v = desk.seat.me.0 in
    let is = is_desk c.store.new.seat.me (then_desk c.number_of-number.result (after_finish c.args.claim.row c.args.claim.place) v) _
    (finish_leaves c.args.self.now.table.shared.table_id.slots _ _ desk.seat.me c.load.new.seat.me c.exchange.new.seat.me _
    desk.idle.0 c.args.claim.row c.args.out (omega (arith, c.args.claim.within)) c.number_of-number.ensures c.load.ensures.2
    c.exchange.ensures.3 c.store.ensures.2) refl desk.own.0 desk.own.1 in
    record { idle = is.0; own = is.1 }

pub returns-clause-finished : goal.returns-clause-finished
returns-clause-finished g c =
    let desk = c.args.desk.now in
    desk_is c.store.new.seat.me (then_desk c.number_of-number.result (after_finish c.args.claim.row c.args.claim.place) desk.seat.me.0)
    (finish_leaves c.args.self.now.table.shared.table_id.slots _ _ desk.seat.me c.load.new.seat.me c.exchange.new.seat.me _
    desk.idle.0 c.args.claim.row c.args.out (omega (arith, c.args.claim.within)) c.number_of-number.ensures c.load.ensures.2
    c.exchange.ensures.3 c.store.ensures.2)

pub returns-clause-event : goal.returns-clause-event
returns-clause-event g c =
    let desk = c.args.desk.now in
    ap (λ (m : SeatAt _ _). m.0)
    (finish_leaves c.args.self.now.table.shared.table_id.slots _ _ desk.seat.me c.load.new.seat.me c.exchange.new.seat.me _
    desk.idle.0 c.args.claim.row c.args.out (omega (arith, c.args.claim.within)) c.number_of-number.ensures c.load.ensures.2
    c.exchange.ensures.3 c.store.ensures.2)
    ∙ (λ e. then_desk (c.number_of-number.ensures e) (after_finish c.args.claim.row c.args.claim.place) desk.seat.me.0)
