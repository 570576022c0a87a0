-- The arguments of the generated job.
use Rattle.std.proofs.Common.{ℕ, ◌<◌, ◌^◌}
use Rattle.std.specs.List.{AllByRecursion}
use Rattle.seq_objects.specs.Objects.{argument_of}
use Rattle.sp_order.specs.Totals.{count_of_act}
use Rattle.job_writer.specs.Generator.{growing_ops, generated}
use Rattle.job_writer.proofs.GeneratorLemmas.Draws.{all_grow}
use Rattle.job_writer.proofs.GeneratorLemmas.Texts.{all_small}
use Rattle.job_lang.proofs.LimitLemmas.SmallArguments.{small_arguments}

pub generated_arguments : (seed size : ℕ) → AllByRecursion (λ act. count_of_act argument_of act < 2 ^ 32) (generated seed size).acts
generated_arguments seed size = small_arguments (generated seed size).acts (all_small (growing_ops seed size) (all_grow seed size))
