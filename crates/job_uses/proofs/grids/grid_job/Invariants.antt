use Rattle.std.proofs.Common.{◌*◌}
use Rattle.job_lang.specs.declared.join.Order.TheVariants.{Parallel}
use Rattle.job_builder.specs.Drafts.{nothing, opened}
use Rattle.job_uses.specs.Code.Growth.{HasGrown}
use Rattle.job_uses.proofs.grids.grid_job.Given as goal

abbrev pub invariant-loop : goal.invariant-loop
invariant-loop l = HasGrown (opened (nothing 0) Parallel) l.job (l.counter * l.columns)
