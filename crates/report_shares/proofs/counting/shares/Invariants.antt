use Rattle.std.proofs.Common.{◌≡◌}
use Rattle.std.specs.List.{flat_map, range_with_len}
use Rattle.report_shares.specs.Shares.{calls, lane_shares}
use Rattle.report_shares.proofs.counting.shares.Given as goal

abbrev pub invariant-loop-worker : goal.invariant-loop-worker
invariant-loop-worker l = l.shares.items ≡ flat_map (lane_shares (calls l.book) l.rows) (range_with_len 0 l.worker)
