use Rattle.std.proofs.Common.{◌*◌, ◌^◌}
use Rattle.seq_objects.specs.Kept.{store_in}
use Rattle.structure_tests.specs.Counters.{AreAtMost}
use Rattle.structure_tests.proofs.plain.first_other_reply.Given as goal

abbrev pub invariant-loop-place : goal.invariant-loop-place
invariant-loop-place l = AreAtMost (l.place * 2 ^ 32) (store_in l.plain)
