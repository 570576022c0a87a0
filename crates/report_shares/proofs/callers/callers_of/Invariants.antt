use Rattle.std.proofs.Common.{◌≡◌, ◌||◌, ℕ, drop}
use Rattle.std.specs.Ordering.{nat_cmp}
use Rattle.std.specs.BTreeSet.{contains}
use Rattle.report_shares.specs.Shares.{calls}
use Rattle.report_shares.proofs.callers.callers_of.Given as goal

abbrev pub invariant-loop-batch : goal.invariant-loop-batch
invariant-loop-batch l = (leaf : ℕ) → (contains nat_cmp l.callers leaf || calls (drop l.batch-index l.book) leaf) ≡ calls l.book leaf
