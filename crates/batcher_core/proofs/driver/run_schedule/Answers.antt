use Rattle.std.proofs.Common.{[], drop, sym, ◌∙◌}
use Rattle.batcher_core.specs.Cores.{job_in_with, state_in}
use Rattle.batcher_core.proofs.ReportLemmas.Reporting.{over_is}
use Rattle.batcher_core.proofs.RunLemmas.Taken.{same_since, over_before, scheduled_before}
use Rattle.batcher_core.proofs.driver.run_schedule.Goals as goal

pub returns-then-is_over-clause-drives : goal.returns-then-is_over-clause-drives
returns-then-is_over-clause-drives g c =
    let over = over_is _ _ (sym c.is_over.ensures ∙ c.if-is_over.true) in
    λ last drives. c.loop-worker.invariant.drives last
    (over_before (job_in_with g.B.WorkBrand.work c.args.core.now) (state_in c.loop-worker.core) last (drop c.loop-worker.worker-index c.args.schedule.now) [] 0 over.1 drives)

pub loop-worker-preserved : goal.loop-worker-preserved
loop-worker-preserved g c = record {
  job = same_since c.args.core.now c.loop-worker.core c.take_turn.new.core c.loop-worker.invariant.job c.in_ok-take_turn.ensures.job;
  drives = λ last drives. c.loop-worker.invariant.drives last
      (scheduled_before g.B.WorkBrand.work c.args.core.now c.loop-worker.core c.take_turn.new.core c.loop-worker.invariant.job (sym c.is_over.ensures ∙ c.if-is_over.false) c.in_ok-take_turn.ensures.spent
      c.args.schedule.now c.loop-worker.worker-index c.loop-worker-test.true c.in_ok-take_turn.ensures.turn last drives);
  spent = λ _. c.loop-worker.invariant.spent c.in_ok-take_turn.ensures.spent;
}
