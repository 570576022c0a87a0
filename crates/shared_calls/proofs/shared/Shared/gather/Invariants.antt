use Rattle.std.proofs.Common.{◌≡◌, ◌≤◌, List, ◌++◌, length}
use Rattle.shared_calls.specs.Closing.{AreFrom, Gathers}
use Rattle.shared_calls.proofs.shared.Shared.gather.Given as goal

abbrev pub invariant-loop-caller : goal.invariant-loop-caller
invariant-loop-caller g l = record {
  table : l.seat.table_id ≡ l.self.table.shared.table_id;
  done : List _;
  are : done ++ l.caller-iterator.rest.items ≡ l.fn.callers.items;
  some : 1 ≤ length done;
  left : AreFrom l.self (length done) l.caller-iterator.rest.items;
  gathers : Gathers done l.seat.me.0;
}
