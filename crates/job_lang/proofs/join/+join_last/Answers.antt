use Rattle.std.proofs.Common.{Some, ap, ◌∙◌, arith}
use Rattle.std.proofs.lemmas.Result.{IfOk-weaker}
use Rattle.job_lang.specs.Orders.{join_by}
use Rattle.job_lang.proofs.ExpandLemmas.Joining.{join_last_halves}
use Rattle.job_lang.proofs.join.+join_last.Goals as goal

pub returns-clause-joins : goal.returns-clause-joins
returns-clause-joins t c =
    let old = c.args.shapes.now.items in
    let whole = join_last_halves (join_by c.args.order) old c.join_last.new.shapes.items c.args.count c.in_ok-left.left c.in_ok-right.right
    (omega (arith, c.if-count-lt2.false)) c.requires.enough c.in_ok-right.ensures.leaves c.in_ok-right.ensures.joins c.in_ok-left.ensures.joins in
    IfOk-weaker c.both.result _ _ (λ shape made. ap (λ tree. Some tree) made ∙ whole) c.both.ensures
