-- Open blocks stay nested, and come to a shape of all their leaves.
use Rattle.std.proofs.Common.{◌≡◌, ℕ, ◌+◌, List, [], ◌∷◌, refl, ap, ◌∙◌, arith, append-nil}
use Rattle.std.specs.Prelude.{sum_by}
use Rattle.sp_order.specs.Precedence.{leaf, leaves, leaf_count}
use Rattle.job_lang.specs.declared.join.Order.{Order}
use Rattle.joined_shapes.specs.Blocks.{Block, Blocks, BeginsAt, IsNested, outside, with_items, with_leaf, opened, joined, closed, closed_in, shape_in, shape_of}
use Rattle.joined_shapes.proofs.Leaves.{items_append, joined_leaves, shape_leaves}

pub nested_outside : IsNested outside
nested_outside = record { begins = refl; counted = refl }

pub nested_leaf : (blocks : Blocks) → IsNested blocks → IsNested (with_leaf blocks)
nested_leaf blocks is = record {
  begins = is.begins;
  counted = let all = items_append blocks.inner.items (leaf ∷ []) in let before = is.counted in omega (arith, all, before);
}

pub nested_opened : (blocks : Blocks) (order : Order) → IsNested blocks → IsNested (opened blocks order)
nested_opened blocks order is = record { begins = (is.counted, is.begins); counted = omega arith }

-- the item that a closed block becomes has the leaves of its items
added : (inner block : Block) → sum_by leaves (with_items block (joined inner)).items ≡ sum_by leaves block.items + sum_by leaves inner.items
added inner block = items_append block.items (joined inner) ∙ ap (λ n. sum_by leaves block.items + n) (joined_leaves inner.order inner.items)

nested_closed_in : (inner : Block) (around : List Block) (count : ℕ) → IsNested (record { inner = inner; around = around; leaves = count }) → IsNested (closed_in inner around count)
nested_closed_in inner [] count is = is
nested_closed_in inner (block ∷ around) count is = record {
  begins = is.begins.1;
  counted = let all = added inner block in let first = is.begins.0 in let before = is.counted in omega (arith, all, first, before);
}

pub nested_closed : (blocks : Blocks) → IsNested blocks → IsNested (closed blocks)
nested_closed blocks is = nested_closed_in blocks.inner blocks.around blocks.leaves is

leaves_in : (inner : Block) (around : List Block) → BeginsAt inner.first around → leaf_count (shape_in inner around) ≡ inner.first + sum_by leaves inner.items
leaves_in inner [] begins = let all = shape_leaves inner.order inner.items in omega (arith, all, begins)
leaves_in inner (block ∷ around) begins =
    let all = leaves_in (with_items block (joined inner)) around begins.1 in
    let more = added inner block in
    let first = begins.0 in
    omega (arith, all, more, first)

pub nested_leaves : (blocks : Blocks) → IsNested blocks → leaf_count (shape_of blocks) ≡ blocks.leaves
nested_leaves blocks is = let all = leaves_in blocks.inner blocks.around is.begins in let count = is.counted in omega (arith, all, count)

-- the shape stays where a block is opened, and where one is closed

pub opened_shape : (blocks : Blocks) (order : Order) → shape_of (opened blocks order) ≡ shape_of blocks
opened_shape blocks order =
    ap (λ items. shape_in (record { order = blocks.inner.order; first = blocks.inner.first; items = items }) blocks.around) (append-nil blocks.inner.items)

closed_shape_in : (inner : Block) (around : List Block) (count : ℕ) → shape_of (closed_in inner around count) ≡ shape_in inner around
closed_shape_in inner [] count = refl
closed_shape_in inner (block ∷ around) count = refl

pub closed_shape : (blocks : Blocks) → shape_of (closed blocks) ≡ shape_of blocks
closed_shape blocks = closed_shape_in blocks.inner blocks.around blocks.leaves
