use Rattle.job_lang.specs.declared.join.Order.TheVariants.{Series}
use Rattle.job_builder.specs.Drafts.{opened}
use Rattle.job_uses.specs.Code.Growth.{HasGrown}
use Rattle.job_uses.proofs.grids.row.Given as goal

abbrev pub invariant-loop : goal.invariant-loop
invariant-loop l = HasGrown (opened l.fn.job Series) l.job l.counter
