use Rattle.std.proofs.Common.{◌+◌, ◌*◌}
use Rattle.job_lang.specs.declared.join.Order.TheVariants.{Parallel}
use Rattle.job_builder.specs.Drafts.{nothing, opened}
use Rattle.job_uses.specs.Code.Growth.{HasGrown}
use Rattle.job_uses.proofs.tickets.ticket_job.Given as goal

abbrev pub invariant-loop : goal.invariant-loop
invariant-loop l = HasGrown (opened (nothing 0) Parallel) l.job (2 * l.counter)

abbrev pub invariant-loop-2 : goal.invariant-loop-2
invariant-loop-2 l = HasGrown (nothing 0) l.job (2 * l.customers + 2 * l.counter)
