use Rattle.std.proofs.Common.{length}
use Rattle.batched_map.proofs.begin.+cut_part.Given as goal

abbrev pub decreases-cut_part : goal.decreases-cut_part
decreases-cut_part l = length l.starts.now
