use Rattle.std.proofs.Common.{◌∙◌, ap, arith}
use Rattle.core_table.specs.Passes.{pass_view}
use Rattle.worker_crew.specs.Passes.{is_trapped}
use Rattle.worker_turns.specs.Trapped.{IsCallSame}
use Rattle.worker_turns.proofs.CarryLemmas.Steps.{front_then, helps_then, jobs_then, stays_same}
use Rattle.worker_turns.proofs.calling.make_call.Goals as goal

pub loop-preserved : goal.loop-preserved
loop-preserved g c =
    let i = c.loop.invariant in
    let turn = c.in_ok-turn.ensures in
    let old = pass_view c.loop.me.pass in
    let new = pass_view c.trapped_turn.new.me.pass in
    let same : IsCallSame old new = stays_same c.in_ok-turn.turn old new c.in_default.not-Left turn.stays in record {
      me = turn.me;
      trapped = (ap is_trapped same.call ∙ i.trapped.0, same.hold);
      job = jobs_then _ old new i.job same.job;
      posted = (i.posted.0, same.posted ∙ i.posted.1);
      made = (i.made.0, i.made.1, i.made.2, front_then _ _ _ i.made.3 same.events);
      looks = (let a = i.looks in let b = same.looks in omega (arith, a, b));
      left = same.left ∙ i.left;
      book = front_then _ _ _ i.book same.book;
      before = same.before ∙ i.before;
      after = same.after ∙ i.after;
      first = same.first ∙ i.first;
      free = turn.free;
      core = turn.core ∙ i.core;
      desk = helps_then _ _ _ i.desk turn.helps;
    }
