use Rattle.std.proofs.Common.{arith, ◌≡◌, ◌++◌, map, sym, ap, subst, refl, ◌∙◌}
use Rattle.sp_order.specs.Precedence.{tree_of, seq}
use Rattle.job_syntax.specs.Grammar.{block_then, nothing}
use Rattle.job_syntax.specs.Views.{items_of, item_of, block_kind_of}
use Rattle.job_syntax.specs.declared.item.BlockKind.TheVariants as kind
use Rattle.job_lang.specs.Meaning.{shapes_in, join_list, join_in}
use Rattle.job_lang.specs.Orders.{join_by}
use Rattle.job_lang.specs.Code.Orders.{shapes_inside}
use Rattle.job_lang.specs.Code.Scoped.{Adds}
use Rattle.job_lang.proofs.ExpandLemmas.Copies.{shapes_step, fits_item, block_shapes}
use Rattle.job_lang.proofs.ExpandLemmas.Joining.{joined_behind, joined_block}
use Rattle.job_lang.proofs.Weights.{weight_item}
use Rattle.job_lang.proofs.ExpandLemmas.Adding.{adds_more, adds_for_loop, adds_pfor_loop, few_item, few_copy, one_more_copy, copies_made, on_ok}
use Rattle.job_lang.proofs.expand.+expanding.Goals as goal

pub shapes_in-loop-item-preserved : goal.shapes_in-loop-item-preserved
shapes_in-loop-item-preserved t c = record {
  made = shapes_step c.args.copy c.args.items.now c.loop-item.item-index c.item-item.result _ _ _
      c.loop-item.invariant.made c.item-item.is c.loop-item-test.true c.in_ok-shape_in.ensures.shapes;
  adds = adds_more c.args.copy c.args.items.now c.loop-item.item-index c.item-item.result _ _ _ c.loop-item-test.true c.item-item.is c.loop-item.invariant.adds c.in_ok-shape_in.ensures.leaves;
}

pub shapes_in-shape_in-requires : goal.shapes_in-shape_in-requires
shapes_in-shape_in-requires t c = (
  (let below = weight_item c.item-item.result c.args.items.now c.loop-item.item-index c.loop-item-test.true c.item-item.is in omega (arith, below)),
  (
    fits_item c.args.copy c.item-item.result c.args.items.now c.loop-item.item-index c.requires.fits c.loop-item-test.true c.item-item.is,
    (
      few_item c.args.copy c.args.items.now c.loop-item.item-index c.item-item.result c.args.leaves.now c.loop-item.leaves c.loop-item-test.true c.item-item.is c.loop-item.invariant.adds c.requires.few,
      c.loop-item.invariant.adds.kept,
    ),
  ),
)

pub shapes_of_copies-shapes_in-requires : goal.shapes_of_copies-shapes_in-requires
shapes_of_copies-shapes_in-requires t c = (
  omega arith,
  (
    c.requires.fits c.loop-copy.copy c.loop-copy-test.true,
    (
      few_copy c.loop-copy.copy c.args.copies (items_of c.args.inside.now) c.args.leaves.now c.loop-copy.leaves c.open.new.self c.loop-copy-test.true c.loop-copy.invariant.adds c.open.ensures.acts c.requires.few,
      c.in_ok-open.ensures.kept,
    ),
  ),
)

pub shape_in-returns-in_ok-block_shapes-in-Block-clause-shapes : goal.shape_in-returns-in_ok-block_shapes-in-Block-clause-shapes
shape_in-returns-in_ok-block_shapes-in-Block-clause-shapes t c =
    let copy = c.args.copy in
    let kind = block_kind_of c.in-Block.kind in
    let joined : join_list (join_by c.order_in.result) (shapes_inside copy kind (items_of c.deref.result.now)) ≡ shapes_in copy (item_of c.args.item.now) =
    ap (λ join. join_list join (shapes_inside copy kind (items_of c.deref.result.now))) c.order_in.ensures
    ∙ ap (λ inside. join_list (join_in kind) (shapes_inside copy kind (items_of inside))) c.deref.ensures.value
    ∙ joined_block copy kind (items_of c.in-Block.inside.items)
    ∙ sym (block_shapes copy c.in-Block.kind c.in-Block.inside) ∙ ap (λ item. shapes_in copy (item_of item)) (sym c.in-Block.is) in
    on_ok c.join_from.result _ _
    (λ h. joined_behind (join_by c.order_in.result) c.args.shapes.now.items c.block_shapes.new.shapes.items c.join_from.new.shapes.items _ c.len-before.result
    (c.len-before.ensures ∙ c.args.shapes.now.ok.0) c.in_ok-block_shapes-in-Block.ensures.shapes h
    ∙ ap (λ trees. map tree_of c.args.shapes.now.items ++ trees) joined) c.join_from.ensures

pub block_shapes-returns-in-For-clause-leaves : goal.block_shapes-returns-in-For-clause-leaves
block_shapes-returns-in-For-clause-leaves t c =
    on_ok c.shapes_of_copies.result _ _
    (λ h. subst (λ kind. Adds c.args.copy (block_then (block_kind_of kind) (items_of c.args.inside.now) nothing) c.args.leaves.now c.shapes_of_copies.new.leaves) (sym c.in-For.is)
    (adds_for_loop c.args.copy c.in-For.copies (items_of c.args.inside.now) c.args.leaves.now c.shapes_of_copies.new.leaves h)) c.shapes_of_copies.ensures.leaves

pub block_shapes-returns-in-Pfor-clause-leaves : goal.block_shapes-returns-in-Pfor-clause-leaves
block_shapes-returns-in-Pfor-clause-leaves t c =
    on_ok c.shapes_of_copies-in-Pfor.result _ _
    (λ h. subst (λ kind. Adds c.args.copy (block_then (block_kind_of kind) (items_of c.args.inside.now) nothing) c.args.leaves.now c.shapes_of_copies-in-Pfor.new.leaves) (sym c.in-Pfor.is)
    (adds_pfor_loop c.args.copy c.in-Pfor.copies (items_of c.args.inside.now) c.args.leaves.now c.shapes_of_copies-in-Pfor.new.leaves h)) c.shapes_of_copies-in-Pfor.ensures.leaves

pub shapes_of_copies-loop-copy-preserved : goal.shapes_of_copies-loop-copy-preserved
shapes_of_copies-loop-copy-preserved t c =
    let body = items_of c.args.inside.now in
    record {
      made = copies_made c.loop-copy.copy (λ k. join_list seq (shapes_in k body)) _ _ _ c.loop-copy.invariant.made
          (joined_behind seq c.loop-copy.shapes.items c.shapes_in.new.shapes.items c.join_from.new.shapes.items _ c.len-before.result
          (c.len-before.ensures ∙ c.loop-copy.shapes.ok.0) c.in_ok-shapes_in.ensures.shapes c.in_ok-join_from.ensures);
      adds = one_more_copy (block_kind_of (kind.For c.args.copies)) c.loop-copy.copy body c.args.leaves.now c.loop-copy.leaves c.open.new.self c.shapes_in.new.leaves c.close.new.self refl c.loop-copy.invariant.adds
          (record {
            opened_acts = c.open.ensures.acts;
            opened_sources = c.open.ensures.sources;
            opened_objects = c.open.ensures.objects;
            opened_scope = c.in_ok-open.ensures.scope;
            fills = c.in_ok-shapes_in.ensures.leaves;
            new_acts = c.close.ensures.acts;
            new_sources = c.close.ensures.sources;
            new_objects = c.close.ensures.objects;
            new_scope = c.close.ensures.scope;
            kept = c.close.ensures.kept;
          });
    }
