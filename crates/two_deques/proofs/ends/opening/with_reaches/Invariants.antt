use Rattle.std.proofs.Common.{◌≡◌, ℕ, length}
use Rattle.two_deques.specs.Code.Opening.{AreMade}
use Rattle.two_deques.proofs.ends.opening.with_reaches.Given as goal

abbrev pub invariant-loop-worker : goal.invariant-loop-worker
invariant-loop-worker g l = record {
  count : length l.all.items ≡ length l.thieves;
  made : (room : ℕ) → AreMade 0 (length l.thieves) room l.thieves l.fn.ends.items
      → AreMade l.worker (length l.thieves) room l.thieves l.all.items;
}
