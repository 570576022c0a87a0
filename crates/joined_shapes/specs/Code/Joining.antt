-- Open blocks with the shapes of their items, while the shapes are joined.
use Rattle.std.specs.Prelude.{map, reverse}
use Rattle.sp_order.specs.Precedence.{tree_of}
use Rattle.joined_shapes.specs.declared.joiner.Joiner.{Joiner}
use Rattle.joined_shapes.specs.declared.joiner.OpenBlock.{OpenBlock}
use Rattle.joined_shapes.specs.Blocks.{Block, Blocks}

abbrev pub block_of : OpenBlock → Block
block_of block = record { order = block.order; first = block.first; items = map tree_of block.shapes.items }

-- the blocks around the innermost one are kept with the outermost first
abbrev pub blocks_in : Joiner → Blocks
blocks_in joiner = record {
  inner = block_of joiner.inner;
  around = reverse (map block_of joiner.outer.items);
  leaves = joiner.leaves;
}
