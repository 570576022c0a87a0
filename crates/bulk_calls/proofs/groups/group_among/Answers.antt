use Rattle.std.proofs.Common.{◌≤◌, length, ◌∙◌, ap, min, sym, arith}
use Rattle.bulk_calls.proofs.GroupLemmas.{group_found}
use Rattle.bulk_calls.proofs.groups.group_among.Goals as goal

pub returns : goal.returns
returns c = λ starts filled count_is.
    let fits : length starts ≤ 15 = omega (arith, c.requires.few, count_is) in
    c.min.ensures ∙ ap (λ n. min c.half_of-group.result n) (sym count_is) ∙ group_found c.args.key c.half_of-group.result starts c.args.places.now filled fits c.half_of-group.ensures.between
