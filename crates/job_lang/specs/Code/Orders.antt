-- The shapes that a block joins.
use Rattle.std.specs.Prelude.{ℕ, List}
use Rattle.job_lang.specs.Meaning.{shapes_in, in_block, copy_shapes}
use Rattle.job_syntax.specs.Grammar.{Items, BlockKind}
use Rattle.sp_order.specs.Precedence.{Tree}

-- the shapes that a block of this kind joins in copy `copy`: those of its items, or of its copies
abbrev pub shapes_inside : ℕ → BlockKind → Items → List Tree
shapes_inside copy kind body = in_block kind copy (λ k. copy_shapes kind (shapes_in k body))
