use Rattle.std.proofs.Common.{◌≡◌, ◌-◌, ◌≤◌, [], vec_len, vec_capacity}
use Rattle.shared_calls.specs.Rule.{newcomers}
use Rattle.shared_calls.specs.Views.{AreNewCallers}
use Rattle.shared_calls.proofs.shared.Shared.callers_of.Given as goal

abbrev pub invariant-loop-number : goal.invariant-loop-number
invariant-loop-number g l = record {
  table : l.seat.table_id ≡ l.self.table.shared.table_id;
  few : l.number ≤ l.self.callers;
  left : l.seat.me ≡ (newcomers l.number l.self.callers (l.self.callers - l.number), []);
  room : (vec_len l.all ≤ l.number) × (l.self.callers ≤ vec_capacity l.all);
  all : AreNewCallers l.number l.self l.all.items;
}
