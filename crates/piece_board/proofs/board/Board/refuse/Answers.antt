use Rattle.std.proofs.Common.{refl, ap, arith}
use Rattle.piece_board.specs.Desks.{after_refusal}
use Rattle.piece_board.specs.Steps.{SeatAt, with_miss}
use Rattle.piece_board.proofs.RuleLemmas.Steps.{strays}
use Rattle.piece_board.proofs.CallLemmas.{stray_leaves, nothing_leaves, is_desk, miss_told}
use Rattle.piece_board.proofs.board.Board.refuse.Goals as goal

pub compare_exchange-requires : goal.compare_exchange-requires
compare_exchange-requires g c = let board = c.args.self.now in (
  c.requires.desk.seated,
  omega (arith, board.places.0, board.some.0),
  strays g.W.Work.meets _ _ _ _ _ _ (omega (arith, board.places.1, board.some.0)) c.args.desk.now.idle.1,
)

pub invariant_of-desk : goal.invariant_of-desk
invariant_of-desk g c =
    let desk = c.args.desk.now in
    let t = stray_leaves g.W.Work.meets _ _ _ _ _ _ c.compare_exchange.result desk.seat.me _ c.args.self.now.places.1 c.from-row.ensures c.from-place.ensures
    c.requires.outside c.compare_exchange.ensures.2 in
    let is = is_desk c.compare_exchange.new.seat.me (with_miss t.0 (after_refusal c.args.row c.args.place) desk.seat.me.0) _
    (nothing_leaves desk.seat.me _ _ desk.idle.0 t.3) refl desk.own.0 desk.own.1 in
    record { idle = is.0; own = is.1 }

pub returns-clause-refused : goal.returns-clause-refused
returns-clause-refused g c =
    let desk = c.args.desk.now in
    let t = stray_leaves g.W.Work.meets _ _ _ _ _ _ c.compare_exchange.result desk.seat.me _ c.args.self.now.places.1 c.from-row.ensures c.from-place.ensures
    c.requires.outside c.compare_exchange.ensures.2 in
    (t.0, miss_told c.args.self.now desk _ _ _ t.0 c.args.self.now.places.1 refl t.1, ap (λ (m : SeatAt _ _). m.0) t.3)
