use Rattle.std.proofs.Common.{◌≡◌, ◌+◌, ◌++◌, map, take}
use Rattle.sp_order.specs.Precedence.{tree_of, seq}
use Rattle.job_lang.specs.Meaning.{shapes_in, each_copy, join_list}
use Rattle.job_lang.specs.Code.Scoped.{Adds, AddsCopies}
use Rattle.job_syntax.specs.Views.{items_of, item_of}
use Rattle.job_lang.proofs.Weights.{weight}
use Rattle.job_lang.proofs.expand.+expanding.Given as goal

abbrev pub invariant-shapes_of_copies-loop-copy : goal.invariant-shapes_of_copies-loop-copy
invariant-shapes_of_copies-loop-copy l = record {
  made : map tree_of l.shapes.items ≡ map tree_of l.initial.shapes.items ++ each_copy l.copy (λ k. join_list seq (shapes_in k (items_of l.inside)));
  adds : AddsCopies l.copy (items_of l.inside) l.initial.leaves l.leaves;
}

abbrev pub invariant-shapes_in-loop-item : goal.invariant-shapes_in-loop-item
invariant-shapes_in-loop-item l = record {
  made : map tree_of l.shapes.items ≡ map tree_of l.initial.shapes.items ++ shapes_in l.copy (items_of (take l.item-index l.items));
  adds : Adds l.copy (items_of (take l.item-index l.items)) l.initial.leaves l.leaves;
}

abbrev pub decreases-shapes_in : goal.decreases-shapes_in
decreases-shapes_in l = weight (items_of l.items.now) + 1

abbrev pub decreases-shape_in : goal.decreases-shape_in
decreases-shape_in l = weight (item_of l.item.now)

abbrev pub decreases-block_shapes : goal.decreases-block_shapes
decreases-block_shapes l = weight (items_of l.inside.now) + 3

abbrev pub decreases-shapes_of_copies : goal.decreases-shapes_of_copies
decreases-shapes_of_copies l = weight (items_of l.inside.now) + 2
