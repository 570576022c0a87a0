use Rattle.std.proofs.Common.{◌≡◌, map, sym, subst}
use Rattle.sp_order.specs.Jobs.{JobValue}
use Rattle.job_lang.specs.Objects.{object_called}
use Rattle.job_lang.specs.Meaning.{acts_in, objects_in}
use Rattle.job_lang.proofs.ExpandLemmas.Numbering.{items_name, are_called}
use Rattle.job_lang.proofs.ReaderLemmas.Spelled.{objects_spelled}
use Rattle.job_lang.proofs.laws.leaves_call_the_objects_they_name.Goals as goal

pub returns : goal.returns
returns c = λ text job is.
    subst (λ (job : JobValue). map (λ act. object_called job.names act) job.acts ≡ objects_in is.items) (sym is.means)
    (are_called (acts_in 0 is.items) (objects_in is.items) (items_name is.items 0) (objects_spelled text is.items is.read))
