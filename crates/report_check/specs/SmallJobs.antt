-- Jobs whose numbers fit their types.
use Rattle.std.specs.Prelude.{◌<◌, ◌^◌}
use Rattle.std.specs.List.{AllByRecursion}
use Rattle.seq_objects.specs.Objects.{argument_of}
use Rattle.sp_order.specs.Jobs.{JobValue, IsJob}
use Rattle.sp_order.specs.Totals.{count_of_act}

-- a job whose acts call with arguments below 2^32
pub record IsSmallJob (job : JobValue) : Type 0 where
  pub is_job : IsJob job
  pub arguments : AllByRecursion (λ act. count_of_act argument_of act < 2 ^ 32) job.acts
