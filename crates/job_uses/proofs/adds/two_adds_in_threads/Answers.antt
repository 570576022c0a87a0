use Rattle.std.proofs.Common.{ap, ◌∙◌}
use Rattle.std.specs.Prelude.{slice_get}
use Rattle.seq_objects.specs.Spin.{spin_of}
use Rattle.job_results.specs.Results.{calls_of}
use Rattle.job_uses.proofs.TwoAdds.{told_sums}
use Rattle.job_uses.proofs.adds.two_adds_in_threads.Goals as goal

pub sum_told-requires-clause-adds : goal.sum_told-requires-clause-adds
sum_told-requires-clause-adds g c = (
  c.args.a,
  (λ i. slice_get (c.in_ok-ran.ensures.job i).acts (c.in_ok-job.ensures.leaves.0 i)) ∙ ap (λ acts. slice_get acts 0) c.in_ok-job.ensures.job.acts,
)

pub sum_told-requires-2-clause-adds : goal.sum_told-requires-2-clause-adds
sum_told-requires-2-clause-adds g c = (
  c.args.b,
  (λ i. slice_get (c.in_ok-ran.ensures.job i).acts (c.in_ok-job.ensures.leaves.1 i)) ∙ ap (λ acts. slice_get acts 1) c.in_ok-job.ensures.job.acts,
)

pub returns-clause-sums : goal.returns-clause-sums
returns-clause-sums g c =
    let made = c.in_ok-job.ensures in
    told_sums c.args.a c.args.b spin_of c.in_ok-job.job (calls_of c.in_ok-ran.ran) c.in_ok-job.first.leaf c.in_ok-job.second.leaf c.sum_told.result c.sum_told-2.result
    made.job c.in_ok-ran.ensures.serial made.leaves.0 made.leaves.1 c.sum_told.ensures c.sum_told-2.ensures
