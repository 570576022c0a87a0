-- The view of the code's `BlockStack`, as a state of the machine.
use Rattle.std.specs.Prelude.{◌≡◌, List, [], ◌∷◌}
use Rattle.job_names.specs.Code.Kept.{IsKept}
use Rattle.job_names.specs.Code.Kept as names
use Rattle.job_syntax.specs.declared.parser.blocks.OpenBlock.{OpenBlock}
use Rattle.job_syntax.specs.declared.parser.blocks.BlockStack.{BlockStack}
use Rattle.job_syntax.specs.Code.Machine.{State, at, an_item}
use Rattle.job_syntax.specs.Code.Machine as machine
use Rattle.job_syntax.specs.Code.Shown.{scope_at}
use Rattle.job_syntax.specs.Views.{items_of, block_kind_of}

abbrev pub block_view : OpenBlock → machine.OpenBlock
block_view block = record { before = items_of block.before.items; kind = block_kind_of block.kind }

-- the open blocks, turned round so that the innermost is first, before those of `under`
abbrev pub blocks_on : List machine.OpenBlock → List OpenBlock → List machine.OpenBlock
blocks_on under [] = under
blocks_on under (block ∷ blocks) = blocks_on (block_view block ∷ under) blocks

abbrev pub view : BlockStack → State
view stack = at (blocks_on [] stack.blocks.items) (items_of stack.items.items) an_item

-- The stack keeps its scopes well, and they show the lets of its blocks and items.
pub record ShowsLets (stack : BlockStack) : Type 0 where
  pub kept : IsKept stack.scopes
  pub shows : names.view stack.scopes ≡ scope_at (view stack).blocks (view stack).items
