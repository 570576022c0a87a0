use Rattle.std.proofs.Common.{sym, ap, ◌∙◌, subst, ◌≡◌, ◌+◌, ◌-◌, arith}
use Rattle.shared_calls.specs.Plays.{own_calls}
use Rattle.shared_calls.specs.Views.{AreNewCallers}
use Rattle.shared_calls.proofs.Openings.{can_cut, left_then, one_more}
use Rattle.shared_calls.proofs.shared.Shared.callers_of.Goals as goal

pub split_seat-own-requires : goal.split_seat-own-requires
split_seat-own-requires g c =
    let i = c.loop-number.invariant in
    let less = c.loop-number-test.true in
    let sized = c.args.self.now.sized.0 in
    (i.table, omega (arith, sized), can_cut g.T.Combined.object g.T.Combined.content g.T.Combined.fails _ _ c.loop-number.number c.args.self.now.callers (c.args.self.now.callers - c.loop-number.number) c.loop-number.seat.me i.left less)

pub loop-number-preserved : goal.loop-number-preserved
loop-number-preserved g c =
    let i = c.loop-number.invariant in
    let n = c.loop-number.number in
    let all = c.args.self.now.callers in
    let less = c.loop-number-test.true in
    let fewer : all - n - 1 ≡ all - (n + 1) = omega arith in
    let split = c.split_seat-own.ensures in
    let idle = c.enroll.ensures.idle in
    let me = idle.2 in record {
      table = split.0 ∙ i.table;
      few = omega (arith, less);
      left = left_then c.loop-number.seat.me c.split_seat-own.new.seat.me n all (all - n) (all - (n + 1)) i.left split.2 fewer;
      room = (let len = c.push_reserved.ensures.len in let room = c.push_reserved.ensures.capacity in let was = i.room in (omega (arith, len, was), omega (arith, room, was)));
      all = subst (λ l. AreNewCallers (n + 1) c.args.self.now l) (sym c.push_reserved.ensures.items) (one_more n c.args.self.now c.loop-number.all.items c.enroll.result i.all
          ((c.enroll.ensures.table, omega (arith, less, idle.0)), idle.0, ap (λ m. own_calls m.0) me, ap (λ m. m.0.seen) me, idle.1));
    }
