use Rattle.std.proofs.Common.{Some, arith, sym, ap, ◌∙◌}
use Rattle.table_rule.proofs.laws.told_values_are_those_of_sources.Goals as goal

pub returns : goal.returns
returns c work key t shown id v value at some_worker is =
    let own = shown.views id v v.own.worker at (omega arith) some_worker in
    let (node, start, leaf, source, task, kind, from, has, same) = own.1.told value is in
    (node, start, leaf, source, task, kind, from, has.under ∙ ap Some (sym same))
