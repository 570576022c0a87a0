use Rattle.std.proofs.Common.{length}
use Rattle.structure_tests.proofs.shop.+run_backwards.Given as goal

abbrev pub decreases-run_backwards : goal.decreases-run_backwards
decreases-run_backwards l = length l.pieces.items
