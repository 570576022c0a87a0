use Rattle.std.proofs.Common.{sym, ap, ◌∙◌, true, false}
use Rattle.std.specs.Prelude.{not, nat_lt}
use Rattle.job_lang.proofs.ExpandLemmas.Pruning.{full_block}
use Rattle.job_lang.proofs.expand.prune.is_full.Goals as goal

pub returns-then-not-is_empty : goal.returns-then-not-is_empty
returns-then-not-is_empty c =
    let a = c.if-not-is_empty.true in let b = c.is_empty.ensures in let k = c.in-Block.inside.ok.0 in
    ap (nat_lt 0) c.copies.ensures ∙ sym (full_block c.args.item.now c.in-Block.kind c.in-Block.inside false c.in-Block.is cc)

pub returns-else-not-is_empty : goal.returns-else-not-is_empty
returns-else-not-is_empty c =
    let a = c.if-not-is_empty.false in let b = c.is_empty.ensures in let k = c.in-Block.inside.ok.0 in
    ap not a ∙ sym (full_block c.args.item.now c.in-Block.kind c.in-Block.inside true c.in-Block.is cc)
