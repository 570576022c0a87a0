use Rattle.std.proofs.Common.{◌+◌, sym, ◌∙◌}
use Rattle.std.proofs.lemmas.Nat.{mod_below}
use Rattle.sp_order.specs.Jobs.{job_tree}
use Rattle.batcher_core.specs.Cores.{state_in}
use Rattle.core_model.specs.Runs.{over}
use Rattle.batcher_core.proofs.ReportLemmas.Reporting.{over_is}
use Rattle.batcher_core.proofs.RunLemmas.Taken.{same_since, robin_before}
use Rattle.batcher_core.proofs.RunLemmas.CoreRounds.{round_fewer}
use Rattle.batcher_core.proofs.driver.run_round_robin.Goals as goal

pub loop-over-smaller : goal.loop-over-smaller
loop-over-smaller g c =
    let unspent = c.in_ok-over.ensures.spent in
    rw c.next_worker-worker.ensures (round_fewer c.args.core.now c.loop-over.core c.take_turn.new.core c.workers-workers.result c.loop-over.worker c.loop-over.invariant.job (c.invariant_holds.ensures unspent)
    (c.plan_stands_for_tree.ensures (job_tree c.loop-over.core.job)) c.workers-workers.ensures.workers c.loop-over.invariant.below (sym c.loop-over.invariant.over ∙ c.loop-over-test.true) unspent
    c.in_ok-over.ensures.turn)

pub loop-over-preserved : goal.loop-over-preserved
loop-over-preserved g c = record {
  job = same_since c.args.core.now c.loop-over.core c.take_turn.new.core c.loop-over.invariant.job c.in_ok-over.ensures.job;
  workers = c.workers-workers.ensures.workers;
  below = rw c.next_worker-worker.ensures (mod_below (c.loop-over.worker + 1) c.workers-workers.result c.workers-workers.ensures.some);
  over = c.in_ok-over.ensures.over;
  drives = λ last drives. c.loop-over.invariant.drives last
      (robin_before g.B.WorkBrand.work c.args.core.now c.loop-over.core c.take_turn.new.core c.loop-over.invariant.job (sym c.loop-over.invariant.over ∙ c.loop-over-test.true) c.in_ok-over.ensures.spent
      c.workers-workers.result c.loop-over.worker c.workers-workers.ensures.workers c.in_ok-over.ensures.turn last (rw c.next_worker-worker.ensures at drives));
  spent = λ _. c.loop-over.invariant.spent c.in_ok-over.ensures.spent;
}

pub returns-clause-drives : goal.returns-clause-drives
returns-clause-drives g c =
    let done = over_is _ _ (sym c.loop-over.invariant.over ∙ c.loop-over-test.false) in
    c.loop-over.invariant.drives (state_in c.loop-over.core) (over done.1)
