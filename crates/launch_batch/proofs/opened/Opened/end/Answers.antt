use Rattle.std.proofs.Common.{◌∙◌}
use Rattle.launch_batch.proofs.PieceLemmas.Outs.{have_met}
use Rattle.launch_batch.proofs.opened.Opened.end.Goals as goal

pub into_shop-requires : goal.into_shop-requires
into_shop-requires c =
    (c.requires.0, c.requires.1, have_met c.requires.0.ins c.args.outs.items c.sort_outs.new.apart c.requires.2 c.in_ok-sort_outs.ensures)

pub last_batch-requires : goal.last_batch-requires
last_batch-requires c =
    let met = have_met c.requires.0.ins c.args.outs.items c.sort_outs.new.apart c.requires.2 c.in_ok-sort_outs.ensures in
    let made = c.in_ok-shop.ensures c.requires.0 c.requires.1 met in
    (c.requires.0.before, made.0, c.history.ensures ∙ c.keep_outs.ensures ∙ made.2)

pub returns-clause-batch : goal.returns-clause-batch
returns-clause-batch c = λ o r met.
    let made = c.in_ok-shop.ensures o r (have_met o.ins c.args.outs.items c.sort_outs.new.apart met c.in_ok-sort_outs.ensures) in
    rw (c.in_ok-batch.ensures o.before made.0 (c.history.ensures ∙ c.keep_outs.ensures ∙ made.2)) made.1

pub returns-clause-history : goal.returns-clause-history
returns-clause-history c = λ o r met.
    let made = c.in_ok-shop.ensures o r (have_met o.ins c.args.outs.items c.sort_outs.new.apart met c.in_ok-sort_outs.ensures) in
    rw (c.in_ok-batch.ensures o.before made.0 (c.history.ensures ∙ c.keep_outs.ensures ∙ made.2)) (c.keep_outs.ensures ∙ made.2)
