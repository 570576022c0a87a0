use Rattle.std.proofs.Common.{length}
use Rattle.table_tests.proofs.launches.+run_all.Given as goal

abbrev pub decreases-run_all : goal.decreases-run_all
decreases-run_all l = length l.pieces.items
