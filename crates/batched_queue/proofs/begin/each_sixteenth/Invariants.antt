use Rattle.std.proofs.Common.{◌≡◌, ◌++◌, ◌-◌, length, drop}
use Rattle.batched_queue.specs.Code.Stripes.{every}
use Rattle.batched_queue.proofs.begin.each_sixteenth.Given as goal

abbrev pub invariant-loop-at : goal.invariant-loop-at
invariant-loop-at l = l.found.items ++ every 0 (drop l.at l.items) ≡ every l.place l.items

abbrev pub decreases-loop-at : goal.decreases-loop-at
decreases-loop-at l = length l.items - l.at
