use Rattle.std.proofs.Common.{◌≡◌, ◌≤◌, length, take}
use Rattle.core_table.specs.Passes.{IsPassOf, pass_view}
use Rattle.worker_turns.specs.Code.Serving.{answered_all}
use Rattle.worker_turns.proofs.launching.answer_all.Given as goal

abbrev pub invariant-loop-place : goal.invariant-loop-place
invariant-loop-place g l = record {
  pass : IsPassOf l.table l.pass;
  seen : pass_view l.pass ≡ answered_all l.number (take l.place l.batch) (pass_view l.initial.pass);
  inside : l.place ≤ length l.batch;
}
