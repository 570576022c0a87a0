use Rattle.std.proofs.Common.{◌≡◌, ℕ, ◌-◌, ◌*◌, ◌<◌, ◌≤◌, ◌^◌, ◌⊎◌}
use Rattle.batched_stack.proofs.stripe.room.next_room.Given as goal

abbrev pub invariant-loop-new : goal.invariant-loop-new
invariant-loop-new l = record {
  power : (c : ℕ) × (l.new ≡ 16 * 2 ^ c);
  least : (l.new ≡ 16) ⊎ (l.new < 4 * l.len);
  some : 16 ≤ l.new;
}

abbrev pub decreases-loop-new : goal.decreases-loop-new
decreases-loop-new l = 2 * l.len - l.new
