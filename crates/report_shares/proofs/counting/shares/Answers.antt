use Rattle.std.proofs.Common.{◌≡◌, ap, sym, ◌++◌, ◌∙◌, arith}
use Rattle.std.specs.List.{flat_map, range_with_len}
use Rattle.std.specs.Ordering.{nat_cmp}
use Rattle.std.specs.BTreeSet.{contains}
use Rattle.report_shares.specs.Shares.{calls, lane_shares, shares_of}
use Rattle.report_shares.proofs.Lanes.{lane_agrees, lanes_more}
use Rattle.report_shares.proofs.counting.shares.Goals as goal

pub loop-worker-preserved : goal.loop-worker-preserved
loop-worker-preserved c =
    let lane = lane_shares (calls c.args.book.now) c.args.rows.now in
    let n = c.loop-worker.worker in
    c.in_ok-push_lane.ensures
    ∙ (ap (λ t. t ++ lane_shares (contains nat_cmp c.in_ok-callers.callers) c.args.rows.now n) c.loop-worker.invariant
    ∙ (ap (λ t. flat_map lane (range_with_len 0 n) ++ t) (lane_agrees (contains nat_cmp c.in_ok-callers.callers) (calls c.args.book.now) c.in_ok-callers.ensures c.args.rows.now n)
    ∙ sym (lanes_more lane n)))

pub returns : goal.returns
unfolding shares_of
returns c =
    let e : c.loop-worker.worker ≡ c.args.workers = omega (arith, c.loop-worker-test.false, c.loop-worker.auto.worker-end) in
    c.loop-worker.invariant ∙ ap (λ n. flat_map (lane_shares (calls c.args.book.now) c.args.rows.now) (range_with_len 0 n)) e
