use Rattle.std.proofs.Common.{◌≡◌, ◌||◌, ℕ, take}
use Rattle.std.specs.Ordering.{nat_cmp}
use Rattle.std.specs.BTreeSet.{contains}
use Rattle.report_shares.specs.Code.{is_among}
use Rattle.report_shares.proofs.callers.add_leaves.Given as goal

abbrev pub invariant-loop-entry : goal.invariant-loop-entry
invariant-loop-entry l = (leaf : ℕ) → contains nat_cmp l.callers leaf ≡ (contains nat_cmp l.fn.callers leaf || is_among leaf (take l.entry-index l.entries))
