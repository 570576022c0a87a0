use Rattle.std.proofs.Common.{◌≡◌, ◌<◌, ◌%◌, false, arith, sym, ◌∙◌, subst, refl}
use Rattle.std.proofs.Math.Nat.{mod-eq_of_lt}
use Rattle.batcher_core.specs.Cores.{job_in, state_in}
use Rattle.core_state.specs.Places.{at}
use Rattle.core_model.specs.Stopped.{LiveDrive}
use Rattle.batcher_core.proofs.ReportLemmas.Reporting.{over_is}
use Rattle.batcher_core.proofs.RunLemmas.Taken.{same_since}
use Rattle.core_model.proofs.RunLemmas.LiveRuns.{over_anywhere}
use Rattle.batcher_core.proofs.RunLemmas.LiveRounds.{round_end, turn_before, passed_before, round_rests, rests_past, lowers_after, rests_after}
use Rattle.seq_objects.specs.Spin.{spin_of}
use Rattle.batcher_core.proofs.stopped.take_round.Goals as goal

pub loop-worker-init : goal.loop-worker-init
loop-worker-init c = record {
  job = (refl, refl);
  unspent = c.requires.unspent;
  drives = λ last drives. subst (λ n. LiveDrive (job_in c.args.core.now) (at c.args.live.now false) (state_in c.args.core.now) n last)
      (mod-eq_of_lt (subst (λ n. 0 < n) c.workers-worker-end.ensures.workers c.workers-worker-end.ensures.some)) drives;
  fewer = (omega arith, λ moved. absurd cc);
  rests = λ _ v below. absurd (omega (arith, below));
}

pub returns-then-is_over-clause-job : goal.returns-then-is_over-clause-job
returns-then-is_over-clause-job c = c.loop-worker.invariant.job

pub returns-then-is_over-clause-drives : goal.returns-then-is_over-clause-drives
returns-then-is_over-clause-drives c =
    let over = over_is _ _ (sym c.is_over.ensures ∙ c.if-is_over.true) in
    λ last drives. c.loop-worker.invariant.drives last
    (over_anywhere (job_in c.args.core.now) (at c.args.live.now false) (state_in c.loop-worker.core) last 0 (c.loop-worker.worker % c.args.core.now.workers) over.1 drives)

pub returns-then-is_over-clause-fewer : goal.returns-then-is_over-clause-fewer
returns-then-is_over-clause-fewer c = c.loop-worker.invariant.fewer.1

pub loop-worker-preserved-then-not-live-worker : goal.loop-worker-preserved-then-not-live-worker
loop-worker-preserved-then-not-live-worker c = record {
  job = c.loop-worker.invariant.job;
  unspent = c.loop-worker.invariant.unspent;
  drives = λ last drives. c.loop-worker.invariant.drives last
      (passed_before spin_of c.args.core.now c.loop-worker.core c.loop-worker.core (at c.args.live.now false) c.loop-worker.invariant.job (sym c.is_over.ensures ∙ c.if-is_over.false)
      c.loop-worker.invariant.unspent c.loop-worker.worker (subst (λ n. c.loop-worker.worker < n) c.workers-worker-end.ensures.workers c.loop-worker-test.true)
      c.if-not-live-worker.true last drives);
  fewer = c.loop-worker.invariant.fewer;
  rests = λ none. rests_past (job_in c.args.core.now) (at c.args.live.now false) (state_in c.loop-worker.core) c.loop-worker.worker c.if-not-live-worker.true (c.loop-worker.invariant.rests none);
}

pub loop-worker-preserved : goal.loop-worker-preserved
loop-worker-preserved c =
    let same = c.loop-worker.invariant.job in
    let live = at c.args.live.now false in
    let below : c.loop-worker.worker < c.args.core.now.workers = subst (λ n. c.loop-worker.worker < n) c.workers-worker-end.ensures.workers c.loop-worker-test.true in
    let among : c.loop-worker.worker < c.loop-worker.core.workers = subst (λ n. c.loop-worker.worker < n) (sym same.1) below in
    let fits = c.invariant_holds.ensures c.loop-worker.invariant.unspent in
    record {
      job = same_since c.args.core.now c.loop-worker.core c.try_turn.new.core same c.in_ok-moved.ensures.job;
      unspent = c.in_ok-moved.ensures.spent;
      drives = λ last drives. c.loop-worker.invariant.drives last
          (turn_before spin_of c.args.core.now c.loop-worker.core c.try_turn.new.core live same (sym c.is_over.ensures ∙ c.if-is_over.false) c.loop-worker.invariant.unspent c.loop-worker.worker below
          c.if-not-live-worker.false c.in_ok-moved.ensures.turn last drives);
      fewer = lowers_after c.args.core.now c.loop-worker.core c.try_turn.new.core live c.loop-worker.worker same fits among c.in_ok-moved.ensures.turn c.in_ok-moved.field-0 c.in_ok-moved.ensures.moved
          c.loop-worker.moved c.loop-worker.invariant.fewer;
      rests = rests_after c.args.core.now c.loop-worker.core c.try_turn.new.core live c.loop-worker.worker same fits among c.in_ok-moved.ensures.turn c.in_ok-moved.field-0 c.in_ok-moved.ensures.moved
          c.loop-worker.moved c.loop-worker.invariant.rests;
    }

pub returns-clause-drives : goal.returns-clause-drives
returns-clause-drives c =
    let count = c.workers-worker-end.ensures.workers in
    let end : c.loop-worker.worker ≡ c.args.core.now.workers = omega (arith, c.loop-worker-test.false, c.loop-worker.auto.worker-end, count) in
    let some : 0 < c.args.core.now.workers = omega (arith, c.workers-worker-end.ensures.some, count) in
    λ last drives. c.loop-worker.invariant.drives last
    (subst (λ n. LiveDrive (job_in c.args.core.now) (at c.args.live.now false) (state_in c.loop-worker.core) n last)
    (sym (round_end c.args.core.now.workers c.loop-worker.worker some end)) drives)

pub returns-clause-fewer : goal.returns-clause-fewer
returns-clause-fewer c = c.loop-worker.invariant.fewer.1

pub returns-clause-rests : goal.returns-clause-rests
returns-clause-rests c =
    let count = c.workers-worker-end.ensures.workers in
    let end : c.loop-worker.worker ≡ c.args.core.now.workers = omega (arith, c.loop-worker-test.false, c.loop-worker.auto.worker-end, count) in
    λ none going. round_rests c.args.core.now c.loop-worker.core (at c.args.live.now false) c.loop-worker.worker c.loop-worker.invariant.job
    (c.invariant_holds-2.ensures c.loop-worker.invariant.unspent) end (c.loop-worker.invariant.rests none)
