use Rattle.std.proofs.Common.{◌≡◌, ◌+◌, ◌<◌, suc, length, subst, arith}
use Rattle.report_reader.specs.Stops.{AreLines, no_lines, one_more}
use Rattle.report_reader.proofs.Stopping.{shorter}
use Rattle.report_reader.proofs.stop.read_lines.Goals as goal

pub loop-next-init : goal.loop-next-init
loop-next-init c = record { are = no_lines; within = omega arith }

pub loop-next-smaller : goal.loop-next-smaller
loop-next-smaller c =
    let less : length c.in-Some.rest.now < length c.loop-next.left.now = shorter c.loop-next.last c.loop-next.left.now c.in-Some.next c.in-Some.rest.now c.in-Some.ensures.some in
    less

pub loop-next-preserved : goal.loop-next-preserved
loop-next-preserved c =
    let one : suc c.loop-next.count ≡ c.loop-next.count + 1 = omega arith in
    record {
      are = subst (λ n. AreLines c.args.text.now n c.in-Some.next c.in-Some.rest.now) one (one_more c.loop-next.invariant.are c.in-Some.ensures.some);
      within = omega (arith, c.loop-next.invariant.within, shorter c.loop-next.last c.loop-next.left.now c.in-Some.next c.in-Some.rest.now c.in-Some.ensures.some);
    }
