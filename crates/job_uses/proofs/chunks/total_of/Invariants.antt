use Rattle.std.proofs.Common.{◌≡◌, ◌*◌, take}
use Rattle.std.specs.Prelude.{sum}
use Rattle.job_uses.proofs.chunks.total_of.Given as goal

abbrev pub invariant-loop-leaf : goal.invariant-loop-leaf
invariant-loop-leaf l = l.total ≡ sum (take (l.leaf-index * l.ran.work.width) l.ran.work.items.now)
