use Rattle.sp_order.specs.Jobs.{job_tree}
use Rattle.std.proofs.Common.{◌≡◌, false, sym, ◌∙◌, rules}
use Rattle.batcher_core.specs.Cores.{job_in, state_in}
use Rattle.core_state.specs.Places.{at}
use Rattle.batcher_core.proofs.RunLemmas.LiveEnds.{not_stuck}
use Rattle.batcher_core.proofs.stopped.drive_some.Goals as goal

pub returns-clause-idle : goal.returns-clause-idle
returns-clause-idle c = λ idle.
    let first = c.args.core in
    let core = c.run_live.new.core in
    let unspent : first.spent ≡ false = search rules in
    not_stuck first core c.args.live.now
    (λ one below on. c.idle_stopped_workers_cost_nothing.ensures (job_in first) (job_tree first.job) (at c.args.live.now false) (state_in first) (state_in core) 0 one
    (c.plan_stands_for_tree.ensures (job_tree first.job)) (c.stands.ensures.sources unspent) (c.stands.ensures.invariant unspent) below on idle c.in_ok-run_live.ensures.drives)
    c.requires.all c.requires.some (sym c.is_over.ensures ∙ c.if-is_over.false) c.in_ok-run_live.ensures.unspent
