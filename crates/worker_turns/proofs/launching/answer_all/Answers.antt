use Rattle.std.proofs.Common.{refl, arith}
use Rattle.std.proofs.lemmas.Option.{slice_get-get_or}
use Rattle.core_table.specs.Passes.{pass_view}
use Rattle.worker_turns.proofs.HoldLemmas.Passes.{own_of}
use Rattle.worker_turns.proofs.LaunchLemmas.Answering.{answer_due, answered_more, entry_at_itself}
use Rattle.worker_turns.proofs.LaunchLemmas.Batches.{few_answers}
use Rattle.worker_turns.proofs.launching.answer_all.Goals as goal

pub answer-requires-clause-due : goal.answer-requires-clause-due
answer-requires-clause-due g c =
    answer_due (pass_view c.args.pass.now) _ c.args.number c.loop-place.place c.args.batch.now _ _
    (slice_get-get_or c.args.batch.now c.loop-place.place _ c.loop-place-test.true) refl c.requires.published c.loop-place.invariant.seen

pub loop-place-preserved : goal.loop-place-preserved
loop-place-preserved g c = record {
  pass = c.answer.ensures.pass;
  seen = answered_more (pass_view c.args.pass.now) _ _ c.args.number c.loop-place.place c.args.batch.now _ _ c.loop-place-test.true
      (entry_at_itself c.args.batch.now c.loop-place.place _ c.loop-place-test.true) refl c.loop-place.invariant.seen (own_of _ _ c.answer.ensures.answered);
  inside = omega (arith, c.loop-place-test.true);
}

pub overflow_cast-receipt : goal.overflow_cast-receipt
overflow_cast-receipt g c =
    let few = few_answers (pass_view c.args.pass.now) c.args.number c.args.batch.now c.requires.published in
    omega (arith, few, c.loop-place-test.true)
