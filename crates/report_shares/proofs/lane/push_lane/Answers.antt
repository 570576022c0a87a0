use Rattle.std.proofs.Common.{arith}
use Rattle.std.specs.Ordering.{nat_cmp}
use Rattle.std.specs.BTreeSet.{contains}
use Rattle.std.proofs.lemmas.Result.{on_ok_weaker}
use Rattle.report_shares.specs.Shares.{works, calls_in}
use Rattle.report_shares.proofs.Lanes.{no_more}
use Rattle.report_shares.proofs.lane.push_lane.Goals as goal

pub push_shares-requires-clause-work : goal.push_shares-requires-clause-work
push_shares-requires-clause-work c =
    rw c.in_ok-lane.ensures.work (omega (arith, c.requires, no_more (works (contains nat_cmp c.args.callers.now) c.args.worker) c.args.rows.now))

pub push_shares-requires-clause-calls : goal.push_shares-requires-clause-calls
push_shares-requires-clause-calls c =
    rw c.in_ok-lane.ensures.calls (omega (arith, c.requires, no_more (calls_in (contains nat_cmp c.args.callers.now) c.args.worker) c.args.rows.now))

pub returns : goal.returns
returns c = on_ok_weaker c.push_shares.result (λ last. rw (← c.in_ok-lane.ensures.work, ← c.in_ok-lane.ensures.calls) last) c.push_shares.ensures
