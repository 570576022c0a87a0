use Rattle.std.proofs.Common.{◌≤◌}
use Rattle.core_table.specs.Passes.{IsPassOf, pass_view}
use Rattle.worker_turns.specs.Holds.{AreFit}
use Rattle.worker_turns.specs.Code.Serving.{Holds, HasLooked}
use Rattle.worker_turns.proofs.launching.collect_pending.Given as goal

abbrev pub invariant-loop-u : goal.invariant-loop-u
invariant-loop-u g l = record {
  pass : IsPassOf l.table l.pass;
  looked : HasLooked l.u l.calls.items (pass_view l.initial.pass) (pass_view l.pass);
  fit : Holds AreFit (pass_view l.pass).hold;
  inside : l.u ≤ l.workers;
}
