use Rattle.std.proofs.Common.{length, refl, ap, subst, ◌∙◌}
use Rattle.sp_order.specs.Code.SourcesView.{listed}
use Rattle.sp_order.specs.Jobs.{JobValue, IsJob}
use Rattle.sp_order.specs.Objects.{with_numbers}
use Rattle.sp_order.proofs.ObjectLemmas.{same_length, job_numbered}
use Rattle.sp_order.proofs.job.Job.with_objects.Goals as goal

pub returns-clause-sources : goal.returns-clause-sources
returns-clause-sources c =
    let given = c.as_slice.result.now in
    ap (listed c.job.inside.sources) (ap length c.with_numbers.ensures ∙ same_length c.job.inside.acts.items given)
    ∙ ap (λ (job : JobValue). job.sources) c.job.view_is

pub invariant_of-result : goal.invariant_of-result
invariant_of-result c =
    let given = c.as_slice.result.now in
    job_numbered c.args.job _ c.args.objects.items _ (subst IsJob c.job.view_is c.job.invariant) c.requires
    (ap (λ (job : JobValue). job.shape) c.job.view_is)
    (c.with_numbers.ensures ∙ ap (with_numbers c.job.inside.acts.items) c.as_slice.ensures.value
    ∙ ap (λ (job : JobValue). with_numbers job.acts c.args.objects.items) c.job.view_is)
    (ap (listed c.job.inside.sources) (ap length c.with_numbers.ensures ∙ same_length c.job.inside.acts.items given)
    ∙ ap (λ (job : JobValue). job.sources) c.job.view_is)
    refl
