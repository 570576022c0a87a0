use Rattle.std.proofs.Common.{◌≡◌, ◌≤◌, ℕ, [], length, IfSome, vec_len, vec_capacity, slice_get}
use Rattle.table_rule.specs.Words.{word_count, slot_count}
use Rattle.table_rule.specs.Views.{enrolling, pass_of}
use Rattle.core_table.specs.Passes.{IsSeatOf}
use Rattle.table_rule.specs.Views.{rest_from}
use Rattle.core_table.proofs.table.CoreTable.of.Given as goal

abbrev pub invariant-loop-worker : goal.invariant-loop-worker
invariant-loop-worker g l = record {
  key : l.table.shared.key ≡ l.setting;
  words : l.table.shared.table_id.words ≡ word_count l.setting.workers l.nodes;
  slots : l.table.shared.table_id.slots ≡ slot_count l.setting.workers;
  same : l.seat.table_id ≡ l.table.shared.table_id;
  seat : l.seat.me ≡ (rest_from l.worker l.setting, []);
  count : vec_len l.passes ≡ l.worker;
  long : length l.passes.items ≡ l.worker;
  room : l.setting.workers ≤ vec_capacity l.passes;
  each : (w : ℕ) → IfSome (slice_get l.passes.items w) (λ pass. (pass.worker ≡ w) × IsSeatOf l.setting l.table.shared.table_id pass.worker pass.seat pass.owed.items pass.published × (pass.seat.me.0 ≡ enrolling (pass_of (rest_from w l.setting))));
}
