use Rattle.std.proofs.Common.{ap, ◌∙◌, subst}
use Rattle.std.specs.Prelude.{slice_get}
use Rattle.seq_objects.specs.declared.op.Op.TheVariants.{CounterAdd}
use Rattle.serial_runs.specs.SerialRuns.{IsReplyTo}
use Rattle.job_results.specs.Results.{calls_of}
use Rattle.job_uses.specs.Interest.{interest_on}
use Rattle.job_uses.proofs.InterestPaid.{all_paid, paid}
use Rattle.job_uses.proofs.interest.balance_told.Goals as goal

pub reply_of-requires : goal.reply_of-requires
reply_of-requires c = (CounterAdd 0 0, ap (slice_get c.args.ran.now.job.acts) c.requires.last ∙ ap (λ acts. slice_get acts 2) c.requires.job.acts)

pub unreachable-requires : goal.unreachable-requires
unreachable-requires c =
    let ran = c.args.ran.now in
    let to = subst (λ leaf. IsReplyTo (calls_of ran) leaf c.reply_of.result) c.requires.last c.reply_of.ensures in
    c.in_default.not-Number _ (paid c.args.deposit c.ranges.deposit.fits (interest_on ran.work.percent) ran.job c.requires.job (calls_of ran) c.reply_of.result c.is_serial.ensures to)

pub returns : goal.returns
returns c =
    let ran = c.args.ran.now in
    let to = subst (λ leaf. IsReplyTo (calls_of ran) leaf c.reply_of.result) c.requires.last c.reply_of.ensures in
    all_paid c.args.deposit ran.work.percent c.in-Number.balance c.reply_of.result c.ranges.deposit.fits ran.work.most c.in-Number.is
    (paid c.args.deposit c.ranges.deposit.fits (interest_on ran.work.percent) ran.job c.requires.job (calls_of ran) c.reply_of.result c.is_serial.ensures to)
