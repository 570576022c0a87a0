use Rattle.report_reader.proofs.Replies.{no_end}
use Rattle.report_reader.proofs.reply.read_reply.Goals as goal

pub returns-in_err-rest-clause-none : goal.returns-in_err-rest-clause-none
returns-in_err-rest-clause-none c =
    rw c.from_residual.ensures (no_end c.args.text.now c.in-Some.number c.in-Some.rest.now c.in-Some.ensures.some c.in_err-rest.ensures.none)
