use Rattle.std.proofs.Common.{◌≡◌, take}
use Rattle.std.specs.List.{filter}
use Rattle.std.specs.Ordering.{nat_cmp}
use Rattle.std.specs.BTreeSet.{contains}
use Rattle.report_shares.specs.Shares.{works, calls_in}
use Rattle.report_shares.proofs.lane.lane_of.Given as goal

abbrev pub invariant-loop-row : goal.invariant-loop-row
invariant-loop-row l = record {
  working : l.work.items ≡ filter (works (contains nat_cmp l.callers) l.worker) (take l.row-index l.rows);
  calling : l.calls.items ≡ filter (calls_in (contains nat_cmp l.callers) l.worker) (take l.row-index l.rows);
}
