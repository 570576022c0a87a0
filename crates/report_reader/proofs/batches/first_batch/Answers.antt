use Rattle.std.proofs.Common.{◌≡◌, length, arith}
use Rattle.report_reader.proofs.Groups.{call_more}
use Rattle.report_reader.proofs.batches.first_batch.Goals as goal

pub loop-call-preserved : goal.loop-call-preserved
loop-call-preserved c =
    let n : c.in-Some.call.now.place ≡ length c.loop-call.entries.items = omega (arith, c.if-call-len.false, c.len.ensures, c.loop-call.entries.ok.0) in
    rw c.in_ok-push.ensures.items (call_more c.args.batch c.loop-call.entries.items c.args.calls.now c.loop-call.rest.now c.in-Some.more.now c.in-Some.call.now c.loop-call.invariant c.in-Some.ensures.cases.0 c.if-call-batch.false n)
