use Rattle.std.proofs.Common.{◌≡◌, ℕ, ◌++◌, ◌-◌, ◌*◌, ◌≤◌, ◌⊎◌, List, drop, length}
use Rattle.batched_counter.specs.Calls.{addends}
use Rattle.batched_counter.specs.Pieces.{IsCutInto, addends_in}
use Rattle.batched_counter.proofs.begin.pieces_of.Given as goal

abbrev pub invariant-cuts : goal.invariant-cuts
invariant-cuts l = record {
  cut : (ps : List (List ℕ)) → IsCutInto l.size (drop l.at (addends l.calls)) ps
      → IsCutInto l.size (addends l.calls) (addends_in l.pieces.items ++ ps);
  within : l.at ≤ length l.calls;
  far : (length l.pieces.items * l.size ≤ l.at) ⊎ (l.at ≡ length l.calls);
  few : length l.pieces.items ≤ 16;
  some : (l.at ≡ 0) ⊎ (1 ≤ length l.pieces.items);
}

abbrev pub decreases-cuts : goal.decreases-cuts
decreases-cuts l = length l.calls - l.at
