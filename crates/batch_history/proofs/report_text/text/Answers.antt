use Rattle.std.proofs.Common.{arith}
use Rattle.batch_history.proofs.Few.{few_entries}
use Rattle.batch_history.proofs.report_text.text.Goals as goal

pub count_calls-calls-requires : goal.count_calls-calls-requires
count_calls-calls-requires c = rw c.batches-book.ensures.batches (omega (arith, few_entries c.args.report.now.history c.batches-book.ensures.history))
