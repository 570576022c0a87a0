use Rattle.std.proofs.Common.{◌≡◌, ◌++◌, map}
use Rattle.std.specs.List.{range_with_len}
use Rattle.report_shares.specs.Shares.{share_in}
use Rattle.report_shares.proofs.lane.push_shares.Given as goal

abbrev pub invariant-loop-column : goal.invariant-loop-column
invariant-loop-column l = l.shares.items ≡ l.fn.shares.items
    ++ map (λ column. share_in l.leaves l.worker column l.lane.work.items l.lane.calls.items) (range_with_len 0 l.column)
