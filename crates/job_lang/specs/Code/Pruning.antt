-- Items without those that make no leaf, at every level.
use Rattle.std.specs.Prelude.{Bool, true, false, ◌||◌, if◌then◌else◌, ◌==◌}
use Rattle.job_syntax.specs.Grammar.{Items, nothing, leaf_then, block_then, BlockKind}
use Rattle.job_syntax.specs.Blocks.{copies_of}

abbrev pub is_nothing : Items → Bool
is_nothing nothing = true
is_nothing _ = false

-- a block before more items, or these alone where the block has no copies or its body is empty
abbrev pub full_block_then : BlockKind → Items → Items → Items
full_block_then kind body more = if is_nothing body || copies_of kind == 0 then more else block_then kind body more

-- the items without the top-level blocks that have no copies, or no items
abbrev pub only_full : Items → Items
only_full nothing = nothing
only_full (leaf_then leaf more) = leaf_then leaf (only_full more)
only_full (block_then kind body more) = full_block_then kind body (only_full more)

abbrev pub without_empty : Items → Items
without_empty nothing = nothing
without_empty (leaf_then leaf more) = leaf_then leaf (without_empty more)
without_empty (block_then kind body more) = full_block_then kind (without_empty body) (without_empty more)
