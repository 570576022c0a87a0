use Rattle.std.proofs.Common.{◌≡◌, ℕ, ◌+◌, ◌-◌, ◌*◌, ◌<◌, ◌≤◌, length, get_or}
use Rattle.batched_stack.proofs.begin.each_sixteenth.Given as goal

abbrev pub invariant-loop-at : goal.invariant-loop-at
invariant-loop-at l = record {
  at : l.at ≡ 16 * length l.found.items + l.first;
  before : (16 * length l.found.items + l.first ≤ length l.items + 15);
  found : (i : ℕ) → i < length l.found.items
      → get_or l.found.items i 0 ≡ get_or l.items (16 * i + l.first) 0;
}

abbrev pub decreases-loop-at : goal.decreases-loop-at
decreases-loop-at l = length l.items - l.at
