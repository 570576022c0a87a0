use Rattle.std.proofs.Common.{arith}
use Rattle.table_tests.proofs.LaunchLemmas.Flags.{answers_few, answer_due, one_answered}
use Rattle.table_tests.proofs.launches.answer_all.Goals as goal

pub answer-requires-clause-due : goal.answer-requires-clause-due
answer-requires-clause-due c =
    let i = c.loop-place.invariant in
    answer_due c.args.table.now i.0 c.args.batch.now c.loop-place.place _ c.loop-place.pass i.3 c.args.number c.loop-place-test.true i.2

pub loop-place-preserved : goal.loop-place-preserved
loop-place-preserved c =
    let i = c.loop-place.invariant in (
      i.0,
      i.1,
      i.2,
      one_answered c.args.table.now i.0 c.args.batch.now c.loop-place.place _ c.loop-place.pass i.3 _ c.answer.new.pass c.answer.ensures.pass
          c.loop-place-test.true c.answer.ensures.answered,
    )

pub overflow_cast-receipt : goal.overflow_cast-receipt
overflow_cast-receipt c =
    let i = c.loop-place.invariant in
    let d = c.args.batch.now in
    let few = answers_few c.args.table.now i.0 d c.loop-place.place c.loop-place.pass i.3 in
    omega (arith, few, c.loop-place-test.true)
