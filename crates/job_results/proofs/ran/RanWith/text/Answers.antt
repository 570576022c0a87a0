use Rattle.batch_history.specs.Book.{flat}
use Rattle.batch_history.proofs.NameLemmas.{all_named}
use Rattle.serial_runs.proofs.SerialOrder.{rows_fill}
use Rattle.job_results.proofs.ran.RanWith.text.Goals as goal

pub text-requires-clause-rows : goal.text-requires-clause-rows
text-requires-clause-rows g c = rows_fill c.self.inside.job c.self.inside.report.workers c.self.inside.report c.self.invariant.rows

pub text-requires-clause-numbers : goal.text-requires-clause-numbers
text-requires-clause-numbers g c =
    let f = c.self.inside in
    all_named c.arguments_keep_objects.ensures.number (g.W.LeafWork.meaning f.work.value) f.job f.report.history (flat f.report.history)
    (c.named_numbers_are_by_first_use.ensures.most f.job.acts f.job.names c.acts-acts.ensures.job.objects) c.self.invariant.calls.operations
