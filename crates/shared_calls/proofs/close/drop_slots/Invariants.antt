use Rattle.std.proofs.Common.{◌≡◌, ℕ, ◌<◌, ◌≤◌, true, false, get_or}
use Rattle.std.specs.Mem.Slots.{slots_filled, slots_len}
use Rattle.shared_calls.proofs.close.drop_slots.Given as goal

abbrev pub invariant-loop-slot : goal.invariant-loop-slot
invariant-loop-slot g l = record {
  wide : l.count < slots_len l.closed.slots;
  full : (k : ℕ) → l.slot ≤ k → k < l.count → get_or (slots_filled l.closed.slots) k false ≡ true;
  taken : (k : ℕ) → k < l.slot → get_or (slots_filled l.closed.slots) k false ≡ false;
  rest : (k : ℕ) → l.count ≤ k → k < slots_len l.closed.slots → get_or (slots_filled l.closed.slots) k false ≡ false;
}
