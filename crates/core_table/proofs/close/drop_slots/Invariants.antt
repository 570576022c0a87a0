use Rattle.std.proofs.Common.{◌≡◌, ℕ, ◌<◌, ◌≤◌, true, false, get_or}
use Rattle.std.specs.Mem.Slots.{slots_filled, slots_len}
use Rattle.core_table.proofs.close.drop_slots.Given as goal

abbrev pub invariant-loop-i : goal.invariant-loop-i
invariant-loop-i l = record {
  wide : l.count < slots_len l.closed.slots;
  full : (k : ℕ) → l.i ≤ k → k < l.count → get_or (slots_filled l.closed.slots) k false ≡ true;
  taken : (k : ℕ) → k < l.i → get_or (slots_filled l.closed.slots) k false ≡ false;
  rest : (k : ℕ) → l.count ≤ k → k < slots_len l.closed.slots → get_or (slots_filled l.closed.slots) k false ≡ false;
}
