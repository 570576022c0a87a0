use Rattle.std.proofs.Common.{rules, arith}
use Rattle.shared_calls.proofs.Seats.{tells}
use Rattle.shared_calls.proofs.shared.Shared.tell.Goals as goal

pub split_seat-seat-requires : goal.split_seat-seat-requires
split_seat-seat-requires g c =
    let sized = c.args.self.now.sized.0 in
    (search rules, omega (arith, sized), tells g.T.Combined.object g.T.Combined.content g.T.Combined.fails c.args.self.now.table.shared.key _ c.args.caller.now.seat.me.0)
