-- Open blocks as the steps that led to them, with the starts of the blocks that are open.
use Rattle.std.specs.Prelude.{◌≡◌, ℕ, ◌≤◌, Bool, false, if◌then◌else◌, nat_le, List, [], ◌∷◌, map, reverse}
use Rattle.limits.specs.declared.TheConstants.{MOST_LEAVES}
use Rattle.joined_shapes.specs.declared.open_blocks.Start.{Start}
use Rattle.joined_shapes.specs.declared.open_blocks.Step.{Step}
use Rattle.joined_shapes.specs.declared.open_blocks.Step.TheVariants.{Open, Leaf, Close}
use Rattle.joined_shapes.specs.Blocks.{Block, Blocks, outside, with_leaf, opened, closed, is_series}

abbrev pub stepped : Blocks → Step → Blocks
stepped blocks (Open order) = opened blocks order
stepped blocks Leaf = with_leaf blocks
stepped blocks Close = closed blocks

abbrev pub blocks_from : Blocks → List Step → Blocks
blocks_from blocks [] = blocks
blocks_from blocks (step ∷ steps) = blocks_from (stepped blocks step) steps

-- the open blocks after these steps
abbrev pub blocks_after : List Step → Blocks
blocks_after steps = blocks_from outside steps

abbrev pub start_of : Block → Start
start_of block = record { order = block.order; first = block.first }

-- whether the innermost of these blocks that holds the leaf runs its items in series, by their starts
abbrev pub starts_show : List Start → ℕ → Bool
starts_show [] u = false
starts_show (start ∷ starts) u = if nat_le start.first u then is_series start.order else starts_show starts u

-- what is kept beside the steps: the starts of the open blocks, the outermost first, and the number of leaves
pub record IsKept (blocks : Blocks) (inner : Start) (outer : List Start) (leaves : ℕ) : Type 0 where
  pub inner_is : start_of blocks.inner ≡ inner
  pub outer_are : map start_of blocks.around ≡ reverse outer
  pub leaves_are : blocks.leaves ≡ leaves
  pub most : leaves ≤ MOST_LEAVES
