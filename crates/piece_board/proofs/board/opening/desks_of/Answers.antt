use Rattle.std.proofs.Common.{arith, ap, ◌+◌, ◌∙◌, sym, subst, List}
use Rattle.piece_board.specs.Boards.{AreDesksUpTo}
use Rattle.piece_board.specs.Steps.{SeatAt}
use Rattle.piece_board.proofs.OpeningLemmas.{one_desk_more, left_then, own_then, can_cut}
use Rattle.piece_board.proofs.board.opening.desks_of.Goals as goal

pub split_seat-own-requires : goal.split_seat-own-requires
split_seat-own-requires g c = let i = c.loop-row.invariant in (
  i.table,
  omega (arith, c.args.board.now.places, c.args.board.now.some),
  can_cut c.loop-row.seat.me _ _ i.left g.W.Work.meets _ c.loop-row-test.true,
)

pub loop-row-preserved : goal.loop-row-preserved
loop-row-preserved g c =
    let i = c.loop-row.invariant in
    let own = own_then c.loop-row.seat.me c.split_seat-own.result.me _ _ i.left c.split_seat-own.ensures.4 in
    let lt = c.loop-row-test.true in record {
      table = c.split_seat-own.ensures.0 ∙ i.table;
      left = left_then c.loop-row.seat.me c.split_seat-own.new.seat.me _ _ i.left c.split_seat-own.ensures.2;
      rows = omega (arith, lt);
      desks = subst (λ (l : List _). AreDesksUpTo (c.loop-row.row + 1) c.args.board.now l) (sym c.in_ok-push.ensures.items)
          (one_desk_more _ _ _ _ i.desks (record { seated = c.split_seat-own.ensures.3 ∙ i.table; below = lt })
          (ap (λ (m : SeatAt _ _). m.0) own));
    }
