use Rattle.std.proofs.Common.{rules, refl, sym, ap, ◌∙◌, subst, ◌≡◌, ◌++◌, length, take, drop, arith}
use Rattle.std.proofs.Math.Seq.{take-append_seam}
use Rattle.job_syntax.specs.Views.{item_of, items_of}
use Rattle.job_lang.specs.Code.Pruning.{only_full, without_empty}
use Rattle.job_lang.proofs.ExpandLemmas.Pruning.{ArePrunedInside, one_more_inside, all_inside}
use Rattle.job_lang.proofs.expand.prune.+pruning.Goals as goal

pub take_out_empty-loop-item-init : goal.take_out_empty-loop-item-init
take_out_empty-loop-item-init t c = record {
  unvisited = (refl, λ k d h. refl);
  pruned = c.deref_mut-item-items.ensures.value;
}

pub take_out_empty-loop-item-preserved : goal.take_out_empty-loop-item-preserved
take_out_empty-loop-item-preserved t c = record {
  unvisited = search rules;
  pruned =
      one_more_inside c.loop-item.item-index c.loop-item.item-items c.args.items.now.items c.item-item.result c.take_out_inside.new.item
      c.loop-item.invariant.pruned (omega (arith, c.loop-item-test.true, c.loop-item.auto.item-items)) c.item-item.is
      (c.take_out_inside.ensures ∙ ap (λ x. without_empty (item_of x)) (sym c.item-item.is));
}

pub take_out_empty-returns : goal.take_out_empty-returns
take_out_empty-returns t c =
    let now = c.loop-item.item-items in
    let old = c.args.items.now.items in
    let whole = subst (λ n. take n (now ++ drop (length now) old) ≡ now) (omega (arith, c.args.items.now.ok.0, c.deref_mut-item-items.ensures.len, c.loop-item.auto.item-items)) (take-append_seam now (drop (length now) old)) in
    let pruned = subst (λ n. ArePrunedInside n now old) (omega (arith, c.loop-item.auto.item-items, c.loop-item.auto.item-index-end, c.loop-item-test.false)) c.loop-item.invariant.pruned in
    c.keep_full.ensures ∙ ap (λ xs. only_full (items_of xs)) whole ∙ all_inside now old pruned
