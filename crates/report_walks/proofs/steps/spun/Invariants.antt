use Rattle.std.proofs.Common.{◌≡◌}
use Rattle.seq_objects.specs.Spin.{spin_of}
use Rattle.report_walks.specs.Code.Maps.{times}
use Rattle.report_walks.proofs.steps.spun.Given as goal

-- the map, as often as there are steps left, gives the value
abbrev pub invariant-loop-steps : goal.invariant-loop-steps
invariant-loop-steps l = times l.factor l.addend l.steps l.x ≡ spin_of l.n

abbrev pub decreases-loop-steps : goal.decreases-loop-steps
decreases-loop-steps l = l.steps
