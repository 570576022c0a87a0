use Rattle.std.proofs.Common.{refl, arith}
use Rattle.core_tests.proofs.stopped.go_on.Goals as goal

-- worker 1 is live
pub drive_some-requires-clause-some : goal.drive_some-requires-clause-some
drive_some-requires-clause-some c = (1, omega arith, refl)
