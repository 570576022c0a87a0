use Rattle.std.proofs.Common.{◌≡◌, ◌+◌, [], ◌∙◌, ap, arith}
use Rattle.batched_queue.specs.Code.Stripes.{every, place_in, stripe, count_in, lists}
use Rattle.batched_queue.proofs.Every.{every_beyond}
use Rattle.batched_queue.proofs.Cutting.{skip, take_out}
use Rattle.batched_queue.proofs.begin.cut_pieces.Goals as goal
use Rattle.batched_queue.proofs.begin.cut_pieces.Goals.{then-place-puts+in_ok-mine+in_ok-add_piece, else-place-puts+else-gets-gt0}

pub loop-number-preserved : goal.loop-number-preserved
loop-number-preserved c =
    let stripes = lists c.args.stripes.items in
    let first = c.args.first in
    let count = c.args.count in
    let puts = c.args.puts.now in
    let found = c.args.found in
    let number = c.loop-number.number in
    let now = lists c.loop-number.stripes.items in
    let pieces = c.loop-number.pieces.items in
    let i = c.loop-number.invariant in
    let place = c.place_in-place.ensures.place in
    elim c.if-place-puts.branch [
      | then-place-puts+in_ok-mine+in_ok-add_piece w ↦
          let made = w.in_ok-add_piece.ensures in
          let mine = w.in_ok-mine.ensures ∙ ap (λ k. every k puts) place in
          let cut = take_out stripes first count puts found number now (lists w.add_piece.new.stripes.items) pieces w.add_piece.new.pieces.items w.in_ok-mine.mine.items c.count_in-gets.result i.cut mine c.count_in-gets.ensures made.lists made.piece in
          rw (w.stripes-is, w.pieces-is) (record { cut = cut; sixteen = made.sixteen })
      | else-place-puts+else-gets-gt0 w ↦
          let no_puts : stripe (first + count) number puts ≡ [] = every_beyond (place_in number (first + count)) puts (omega (arith, place, w.if-place-puts.false)) in
          let no_gets : count_in first number found ≡ 0 = omega (arith, c.count_in-gets.ensures, w.if-gets-gt0.false) in
          let cut = skip stripes first count puts found number now pieces i.cut no_puts no_gets in
          rw (w.stripes-is, w.pieces-is) (record { cut = cut; sixteen = i.sixteen })
    ]
