use Rattle.std.proofs.Common.{◌+◌, arith, sym}
use Rattle.std.proofs.lemmas.Bool.Decides.{nat_tests}
use Rattle.batched_map.proofs.Cutting.{passes, stops}
use Rattle.batched_map.proofs.begin.range_at.Goals as goal

pub loop-number-preserved : goal.loop-number-preserved
loop-number-preserved c =
    let step = passes c.args.ranges.now c.args.index (c.loop-number.number + 1) c.index-ranges-number.result c.loop-number-test.true (sym c.index-ranges-number.is) (grind (arith, nat_tests, c.if-ranges-number.true)) in
    record {
      within = omega arith;
      passed = omega (arith, step, c.loop-number.invariant.passed);
    }

pub returns-else-ranges-number : goal.returns-else-ranges-number
returns-else-ranges-number c =
    let stop = stops c.args.ranges.now c.args.index (c.loop-number.number + 1) c.index-ranges-number.result c.loop-number-test.true (sym c.index-ranges-number.is) (grind (arith, nat_tests, c.if-ranges-number.false)) in
    omega (arith, stop, c.loop-number.invariant.passed)
