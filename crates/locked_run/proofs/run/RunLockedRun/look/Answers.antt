use Rattle.std.proofs.Common.{rules, subst}
use Rattle.batcher_core.specs.Cores.{job_in, state_in, IsTurnResult}
use Rattle.batcher_core.specs.declared.turn.Turn.{Turn}
use Rattle.batcher_core.specs.declared.turn.Turn.TheVariants.{Idle}
use Rattle.locked_run.specs.Runs.{RunView}
use Rattle.locked_run.proofs.RunKept.{run_moved}
use Rattle.locked_run.proofs.run.RunLockedRun.look.Goals as goal

pub returns-in-Ok-Idle : goal.returns-in-Ok-Idle
returns-in-Ok-Idle g c =
    let new = state_in c.turn_with.new.core in
    let old = c.self.inside.core in
    let idle : IsTurnResult Idle (job_in old) (state_in old) c.args.worker new =
    subst (λ (t : Turn). IsTurnResult t (job_in old) (state_in old) c.args.worker new) c.in-Ok-Idle.field-0-is c.in-Ok-Idle.ensures.event in
    (search rules, subst (λ (r : RunView). IsTurnResult Idle (job_in r.core) (state_in r.core) c.args.worker new) c.self.view_is idle)

pub invariant_of-self : goal.invariant_of-self
invariant_of-self g c =
    let old = c.self.inside.core in
    let new = c.turn_with.new.core in
    let moved = subst (λ (t : Turn). IsTurnResult t (job_in old) (state_in old) c.args.worker (state_in new)) c.in-Ok-Moved.field-0-is c.in-Ok-Moved.ensures.event in
    run_moved g.J.JobBrand.job g.J.JobBrand.workers old new c.self.inside.failed c.args.worker c.self.invariant c.turn_with.ensures.job moved c.in-Ok-Moved.ensures.spent
    c.step_leads_to_reached.ensures
