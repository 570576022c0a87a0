use Rattle.std.proofs.Common.{◌≡◌, ◌≤◌, length, take}
use Rattle.std.specs.List.{count_by}
use Rattle.worker_crew.specs.Opening.{is_call}
use Rattle.worker_crew.proofs.crew.opening.count_calls.Given as goal

abbrev pub invariant-loop-at : goal.invariant-loop-at
invariant-loop-at l = (l.count ≡ count_by is_call (take l.at l.acts)) × (l.at ≤ length l.acts)
