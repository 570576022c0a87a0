use Rattle.std.proofs.Common.{◌≢◌, ℕ, ◌<◌, get_or, None}
use Rattle.sp_order.specs.Sources.{IsCallLeaf}
use Rattle.report_walks.proofs.calls.have_values.Given as goal

abbrev pub invariant-loop-leaf : goal.invariant-loop-leaf
invariant-loop-leaf l = (leaf : ℕ) → leaf < l.leaf → IsCallLeaf l.acts leaf → get_or l.values leaf None ≢ None
