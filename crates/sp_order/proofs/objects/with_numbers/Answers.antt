use Rattle.std.proofs.Common.{◌≡◌, ◌<◌, suc, ◌+◌, sym, ap, ◌∙◌, arith, length, get_or, set, take}
use Rattle.sp_order.specs.Objects.{numbered, with_numbers}
use Rattle.sp_order.proofs.ObjectLemmas.{none_given, next_given}
use Rattle.sp_order.proofs.objects.with_numbers.Goals as goal

pub loop-leaf-init : goal.loop-leaf-init
loop-leaf-init c = sym (none_given c.args.acts.items)

pub loop-leaf-preserved : goal.loop-leaf-preserved
loop-leaf-preserved c =
    let acts = c.args.acts.items in
    let numbers = c.args.numbers.now in
    let leaf = c.loop-leaf.leaf in
    let act = c.index.result.now in
    let here : leaf < length numbers = c.loop-leaf-test.true in
    let next : suc leaf ≡ leaf + 1 = omega arith in
    ap (λ next. set c.loop-leaf.acts.items leaf next) (c.numbered.ensures ∙ ap (λ old. numbered old (get_or numbers leaf 0)) c.index.ensures)
    ∙ ap (λ given. set given leaf (numbered (get_or given leaf act) (get_or numbers leaf 0))) c.loop-leaf.invariant
    ∙ next_given acts numbers leaf act (omega (arith, c.requires, here)) here
    ∙ ap (λ count. with_numbers acts (take count numbers)) next
