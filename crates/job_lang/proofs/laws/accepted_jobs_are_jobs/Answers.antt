use Rattle.std.proofs.Common.{[], true, refl, sym, subst, arith}
use Rattle.sp_order.specs.Precedence.{seq}
use Rattle.sp_order.specs.Jobs.{JobValue, IsJob}
use Rattle.sp_order.proofs.ObjectLemmas.{unnamed_are_named, job_numbered}
use Rattle.job_lang.specs.Joins.{join_of}
use Rattle.job_lang.specs.Meaning.{shapes_in, acts_in, objects_in, sources_in, job_of}
use Rattle.job_lang.specs.Objects.{numbers_of, names_of}
use Rattle.job_lang.proofs.ExpandLemmas.Leaves.{job_leaves, acts_count}
use Rattle.job_lang.proofs.ExpandLemmas.Numbering.{items_name, are_unnamed, are_numbered}
use Rattle.job_lang.proofs.ExpandLemmas.Sourcing.{items_have_sources}
use Rattle.job_lang.proofs.ReaderLemmas.Spelled.{objects_spelled}
use Rattle.job_lang.proofs.laws.accepted_jobs_are_jobs.Goals as goal

pub returns : goal.returns
returns c text job is =
    let items = is.items in
    let acts = acts_in 0 items in
    let called = objects_in items in
    let unnamed : JobValue = record { shape = join_of seq (shapes_in 0 items); acts = acts; sources = sources_in true [] 0 items; names = [] } in
    let is_unnamed : IsJob unnamed = record {
      leaves = job_leaves items;
      most = omega (arith, acts_count items 0, is.few);
      sources = items_have_sources items is.read.derives.fits;
      objects = unnamed_are_named acts (are_unnamed acts called (items_name items 0));
    } in
    subst IsJob (sym is.means)
    (job_numbered unnamed (job_of items) (numbers_of called) (names_of called) is_unnamed
    (are_numbered acts called (items_name items 0) (objects_spelled text items is.read))
    refl refl refl refl)
