use Rattle.std.proofs.Common.{◌-◌, length}
use Rattle.rank_nodes.proofs.boxes.Boxes.hold.Given as goal

abbrev pub decreases-loop-count : goal.decreases-loop-count
decreases-loop-count l = l.count - length l.self.nodes.items
