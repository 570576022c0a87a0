use Rattle.std.proofs.Common.{◌≡◌, ◌∙◌, sym, ap, subst, length, take, arith}
use Rattle.std.proofs.lemmas.List.{take_all}
use Rattle.sp_order.specs.Precedence.{tree_of, leaves, leaf_count}
use Rattle.job_writer.specs.Canonical.{written_leaves}
use Rattle.job_writer.specs.Code.Smalls.{AreSmallLeaves}
use Rattle.job_writer.proofs.WriterLemmas.Marks.{any_ok}
use Rattle.job_writer.specs.Code.Writable.{AreWritable}
use Rattle.job_writer.proofs.WriterLemmas.Jobs.{can_be_written}
use Rattle.job_writer.proofs.WriterLemmas.Sources.{length_from}
use Rattle.job_writer.proofs.writer.push_job.Goals as goal

pub returns-in_ok-push_shape-in-Some-clause-small : goal.returns-in_ok-push_shape-in-Some-clause-small
returns-in_ok-push_shape-in-Some-clause-small c =
    let job = c.args.job.now in
    let is_job = c.shape.ensures.job in
    let tree = tree_of c.in-Some.shape.now in
    let written : c.deref.result.now ≡ written_leaves job = c.deref.ensures.value ∙ c.in_ok-written-in-Some.ensures in
    let count = length_from job.sources 0 job.acts job.sources is_job.sources.as_many in
    let same = ap leaf_count c.in-Some.ensures.shape in
    let each = is_job.leaves in
    let long : length (written_leaves job) ≡ leaves tree = omega (arith, count, same, each) in
    any_ok c.push_str.result (AreSmallLeaves (written_leaves job))
    (subst AreSmallLeaves (take_all (leaves tree) (written_leaves job) (omega (arith, long)))
    (subst (λ all. AreSmallLeaves (take (leaves tree) all)) written c.in_ok-push_shape-in-Some.ensures.small))

pub push_shape-requires : goal.push_shape-requires
push_shape-requires c =
    let job = c.args.job.now in
    let written : c.deref.result.now ≡ written_leaves job = c.deref.ensures.value ∙ c.in_ok-written-in-Some.ensures in
    subst (AreWritable c.names.result.now) (sym written) (can_be_written job c.names.result.now c.shape.ensures.job c.names.ensures.names)
