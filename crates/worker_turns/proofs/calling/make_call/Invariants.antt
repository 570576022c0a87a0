use Rattle.std.proofs.Common.{ℕ, ◌≡◌, ◌≤◌, Some, [], ◌∷◌, ◌++◌}
use Rattle.two_deques.specs.Hands.{held}
use Rattle.piece_board.specs.Boards.{desk_view}
use Rattle.core_model.specs.Words.{Op}
use Rattle.core_model.specs.declared.event.Event.TheVariants.{Post}
use Rattle.core_model.specs.declared.task.Task.TheVariants.{Started}
use Rattle.core_table.specs.Passes.{pass_view}
use Rattle.table_rule.specs.Shows.{IsPrefix}
use Rattle.worker_crew.specs.Passes.{IsTrapped}
use Rattle.worker_crew.specs.Workers.{IsMeOf}
use Rattle.worker_turns.specs.Trapped.{IsJobSame}
use Rattle.worker_turns.specs.Free.{Helps}
use Rattle.worker_turns.proofs.calling.make_call.Given as goal

abbrev pub invariant-loop : goal.invariant-loop
invariant-loop g l = record {
  me : IsMeOf l.crew l.me;
  trapped : IsTrapped (pass_view l.me.pass);
  job : IsJobSame (pass_view l.fn.me.pass) (pass_view l.me.pass);
  posted : (op : Op) × ((pass_view l.me.pass).posted ≡ Some (record { leaf = l.fn.leaf; op = op }));
  made : (node : ℕ) × (start : ℕ) × ((pass_view l.fn.me.pass).task ≡ Started node start)
      × IsPrefix ((pass_view l.fn.me.pass).events ++ Post node start ∷ []) (pass_view l.me.pass).events;
  looks : (pass_view l.fn.me.pass).stop_looks ≤ (pass_view l.me.pass).stop_looks;
  left : (pass_view l.me.pass).left ≡ (pass_view l.fn.me.pass).left;
  book : IsPrefix (pass_view l.fn.me.pass).book_seen (pass_view l.me.pass).book_seen;
  before : (pass_view l.me.pass).before ≡ (pass_view l.fn.me.pass).greatest;
  after : (pass_view l.me.pass).after ≡ Some l.since;
  first : (pass_view l.me.pass).first_since ≡ Some l.since;
  free : (desk_view l.me.desk).posted ≡ [];
  core : (held l.me.hand).core ≡ (held l.fn.me.hand).core;
  desk : Helps (desk_view l.fn.me.desk) (desk_view l.me.desk);
}
