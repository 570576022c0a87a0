use Rattle.std.proofs.Common.{sym, ◌∙◌}
use Rattle.report_reader.proofs.Stopping.{next_call, next_row, out_of_turn, no_next}
use Rattle.report_reader.proofs.stop.read_next.Goals as goal

pub returns-then-may_follow-clause-some : goal.returns-then-may_follow-clause-some
returns-then-may_follow-clause-some c = next_call c.args.last c.in-Some.ensures.some (sym c.may_follow.ensures ∙ c.if-may_follow.true)

pub returns-else-may_follow-clause-none : goal.returns-else-may_follow-clause-none
returns-else-may_follow-clause-none c = out_of_turn c.args.last c.in-Some.ensures.some (sym c.may_follow.ensures ∙ c.if-may_follow.false)

pub returns-in-Some-read_row-clause-some : goal.returns-in-Some-read_row-clause-some
returns-in-Some-read_row-clause-some c = next_row c.in-Some-read_row.ensures.some

pub returns-in-None-read_row-clause-none : goal.returns-in-None-read_row-clause-none
returns-in-None-read_row-clause-none c = no_next c.args.last c.in-None.ensures.none c.in-None-read_row.ensures.none
