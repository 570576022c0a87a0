use Rattle.std.proofs.Common.{◌≡◌, ◌+◌, ◌≤◌, replicate, vec_capacity, vec_len}
use Rattle.table_rule.specs.declared.slot.Slot.TheVariants as Slots
use Rattle.core_table.proofs.make.opening_slots.Given as goal

abbrev pub invariant-loop : goal.invariant-loop
invariant-loop l = record {
  items : l.slots.items ≡ replicate l.counter Slots.Vacant;
  len : vec_len l.slots ≡ l.counter;
  room : l.fn.layout.workers + 2 ≤ vec_capacity l.slots;
}
