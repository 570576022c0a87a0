-- A job while it is put together from left to right: its open blocks, and what it comes to.
use Rattle.std.specs.Prelude.{◌≡◌, ℕ, ◌+◌, Bool, true, false, if◌then◌else◌, nat_le, sum_by, List, [], ◌∷◌, ◌++◌, Option}
use Rattle.sp_order.specs.Precedence.{Tree, leaf, leaves}
use Rattle.job_lang.specs.declared.join.Order.{Order}
use Rattle.job_lang.specs.declared.join.Order.TheVariants.{Series, Parallel}
use Rattle.job_lang.specs.Joins.{join_of}
use Rattle.job_lang.specs.Meaning.{join_list}
use Rattle.job_lang.specs.Orders.{join_by}

-- an open block: how it joins its items, the number of its first leaf, and its items so far
pub record Block : Type 0 where
  pub order : Order
  pub first : ℕ
  pub items : List Tree

-- the innermost open block, those around it from the inside out, and the number of leaves so far
pub record Blocks : Type 0 where
  pub inner : Block
  pub around : List Block
  pub leaves : ℕ

-- no leaf and no block; outside every block the items run in series
abbrev pub outside : Blocks
outside = record { inner = record { order = Series; first = 0; items = [] }; around = []; leaves = 0 }

abbrev pub with_items : Block → List Tree → Block
with_items block more = record { order = block.order; first = block.first; items = block.items ++ more }

-- one more leaf
abbrev pub with_leaf : Blocks → Blocks
with_leaf blocks = record { inner = with_items blocks.inner (leaf ∷ []); around = blocks.around; leaves = blocks.leaves + 1 }

-- one more block
abbrev pub opened : Blocks → Order → Blocks
opened blocks order = record {
  inner = record { order = order; first = blocks.leaves; items = [] };
  around = blocks.inner ∷ blocks.around;
  leaves = blocks.leaves;
}

-- the items of a block, joined to one; a block without items gives none
abbrev pub joined : Block → List Tree
joined block = join_list (join_by block.order) block.items

-- the innermost block closed, and so one item of the block around it
abbrev pub closed_in : Block → List Block → ℕ → Blocks
closed_in inner [] leaves = record { inner = inner; around = []; leaves = leaves }
closed_in inner (block ∷ around) leaves = record { inner = with_items block (joined inner); around = around; leaves = leaves }

abbrev pub closed : Blocks → Blocks
closed blocks = closed_in blocks.inner blocks.around blocks.leaves

-- the shape, if all open blocks were closed here
abbrev pub shape_in : Block → List Block → Option Tree
shape_in inner [] = join_of (join_by inner.order) inner.items
shape_in inner (block ∷ around) = shape_in (with_items block (joined inner)) around

abbrev pub shape_of : Blocks → Option Tree
shape_of blocks = shape_in blocks.inner blocks.around

abbrev pub is_series : Order → Bool
is_series Series = true
is_series Parallel = false

-- whether the innermost of these blocks that holds the leaf runs its items in series
abbrev pub shows : List Block → ℕ → Bool
shows [] u = false
shows (block ∷ around) u = if nat_le block.first u then is_series block.order else shows around u

-- whether the leaf is before each leaf that is added next
abbrev pub is_shown : Blocks → ℕ → Bool
is_shown blocks u = shows (blocks.inner ∷ blocks.around) u

-- each block begins behind the items of the block around it, and the outermost one with leaf 0
abbrev pub BeginsAt : ℕ → List Block → Type 0
BeginsAt first [] = first ≡ 0
BeginsAt first (block ∷ around) = (first ≡ block.first + sum_by leaves block.items) × BeginsAt block.first around

-- the blocks stand in one another, and have all leaves
pub record IsNested (blocks : Blocks) : Type 0 where
  pub begins : BeginsAt blocks.inner.first blocks.around
  pub counted : blocks.leaves ≡ blocks.inner.first + sum_by leaves blocks.inner.items
