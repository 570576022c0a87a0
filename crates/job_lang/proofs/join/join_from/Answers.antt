use Rattle.std.proofs.Common.{◌-◌, arith}
use Rattle.job_lang.specs.Orders.{join_by}
use Rattle.job_lang.proofs.ExpandLemmas.Joining.{few_joined, many_joined}
use Rattle.job_lang.proofs.join.join_from.Goals as goal

pub returns-then-count-lt2 : goal.returns-then-count-lt2
returns-then-count-lt2 c = few_joined (join_by c.args.order) c.args.before c.args.shapes.now.items c.requires (omega arith)

pub returns : goal.returns
returns c =
    many_joined (join_by c.args.order) c.args.shapes.now.items c.join_last.new.shapes.items c.push.new.self.items c.args.before (c.len.result - c.args.before) c.in_ok-shape.shape
    c.requires (omega arith) c.in_ok-shape.ensures.leaves c.in_ok-shape.ensures.joins c.in_ok-push.ensures.items
