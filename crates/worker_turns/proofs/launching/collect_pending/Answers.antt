use Rattle.std.proofs.Common.{rules, arith}
use Rattle.core_table.specs.Passes.{pass_view}
use Rattle.worker_turns.proofs.LaunchLemmas.Looking.{next_look, looked_take, looked_else}
use Rattle.worker_turns.proofs.launching.collect_pending.Goals.{in-Some+in_ok-push, in_default}
use Rattle.worker_turns.proofs.launching.collect_pending.Goals as goal

pub take_pending-requires-clause-next : goal.take_pending-requires-clause-next
take_pending-requires-clause-next g c =
    next_look (pass_view c.args.pass.now) (pass_view c.loop-u.pass) c.loop-u.u c.loop-u.calls.items c.requires.won c.loop-u.invariant.looked

pub loop-u-preserved : goal.loop-u-preserved
loop-u-preserved g c =
    let i = c.loop-u.invariant in
    let first = pass_view c.args.pass.now in
    let old = pass_view c.loop-u.pass in
    let new = pass_view c.take_pending.new.pass in
    elim c.match-take_pending.branch [
      | in-Some+in_ok-push w ↦ let took = w.in-Some.ensures.took in record {
        pass = c.take_pending.ensures.pass;
        looked = looked_take first old new c.loop-u.u c.loop-u.calls.items c.match-take_pending.calls.items w.in-Some.call i.looked took.0 took.1 (search rules);
        fit = c.take_pending.ensures.fit;
        inside = omega (arith, c.loop-u-test.true);
      }
      | in_default w ↦ record {
        pass = c.take_pending.ensures.pass;
        looked = looked_else first old new c.loop-u.u c.loop-u.calls.items c.match-take_pending.calls.items c.take_pending.result i.looked w.in_default.not-Some c.take_pending.ensures.passed (search rules);
        fit = c.take_pending.ensures.fit;
        inside = omega (arith, c.loop-u-test.true);
      }
    ]
