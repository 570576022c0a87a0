use Rattle.std.proofs.Common.{arith}
use Rattle.job_writer.specs.Generator.{generated}
use Rattle.batchrun.proofs.program.runs.generated_jobs_have_one_summary.Goals as goal

pub returns-clause-sums : goal.returns-clause-sums
returns-clause-sums c seed size workers report some few lawful =
    let leaves = c.generated_jobs_have_few_leaves.ensures in
    c.summary_is_the_jobs.ensures.small (generated seed size) workers report (c.generated_jobs_fill_first.ensures seed size some) lawful
    (omega (arith, few, leaves.acts seed size, leaves.most seed size)) (c.generated_jobs_have_small_arguments.ensures seed size)

pub returns-clause-lines : goal.returns-clause-lines
returns-clause-lines c seed size workers report some lawful =
    c.summary_is_the_jobs.ensures.lines (generated seed size) workers report seed size (c.generated_jobs_fill_first.ensures seed size some) lawful
