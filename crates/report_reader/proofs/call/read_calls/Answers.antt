use Rattle.std.proofs.Common.{◌<◌, length}
use Rattle.report_reader.proofs.Books.{shorter}
use Rattle.report_reader.proofs.Calls.{read_longer, read_more, calls_read, extends_through}
use Rattle.report_reader.proofs.call.read_calls.Goals as goal

pub loop-calls-smaller : goal.loop-calls-smaller
loop-calls-smaller c =
    let is = rw c.in-Some.is at c.in_ok-call.ensures.some in
    let less : length c.in-Some.more.now < length c.loop-calls.rest.now = shorter c.read_call.new.table c.loop-calls.rest.now c.in-Some.call c.in-Some.more.now is in
    less

pub loop-calls-preserved : goal.loop-calls-preserved
loop-calls-preserved c =
    let is = rw c.in-Some.is at c.in_ok-call.ensures.some in
    let longer = read_longer _ c.read_call.new.table c.args.text.now c.loop-calls.calls.items c.loop-calls.rest.now c.in_ok-call.ensures.extends c.in_ok-call.ensures.kept c.loop-calls.invariant.read in
    record {
      extends = extends_through _ _ _ c.loop-calls.invariant.extends c.in_ok-call.ensures.extends;
      read = rw c.in_ok-push.ensures.items (read_more c.read_call.new.table c.args.text.now c.loop-calls.calls.items c.loop-calls.rest.now c.in-Some.call c.in-Some.more.now longer is);
    }

pub returns-clause-calls : goal.returns-clause-calls
returns-clause-calls c =
    let longer = read_longer _ c.read_call.new.table c.args.text.now c.loop-calls.calls.items c.loop-calls.rest.now c.in_ok-call.ensures.extends c.in_ok-call.ensures.kept c.loop-calls.invariant.read in
    calls_read c.read_call.new.table c.args.text.now c.loop-calls.calls.items c.loop-calls.rest.now longer (rw c.in_default.is at c.in_ok-call.ensures.none)
