use Rattle.std.proofs.Common.{◌≡◌}
use Rattle.std.specs.Prelude.{sum}
use Rattle.seq_objects.specs.declared.reply.Reply.TheVariants.{Number}
use Rattle.job_uses.proofs.SumReplies.{last_calls, replied_sum}
use Rattle.job_uses.proofs.sums.last_sum.Goals as goal

pub reply_of-requires : goal.reply_of-requires
reply_of-requires c = last_calls (sum c.args.items.now) c.args.ran.now.job c.args.last.leaf c.requires

pub unreachable-requires : goal.unreachable-requires
unreachable-requires c =
    let ran = c.args.ran.now in
    let said : c.reply_of.result ≡ Number (sum c.args.items.now) =
    replied_sum (sum c.args.items.now) ran.job c.args.last.leaf ran.report.workers ran.report c.reply_of.result c.requires c.report-report.ensures.lawful c.reply_of.ensures in
    c.in_default.not-Number _ said

pub returns : goal.returns
returns c =
    let ran = c.args.ran.now in
    let said : c.reply_of.result ≡ Number (sum c.args.items.now) =
    replied_sum (sum c.args.items.now) ran.job c.args.last.leaf ran.report.workers ran.report c.reply_of.result c.requires c.report-report.ensures.lawful c.reply_of.ensures in
    cc
