-- The text of the two sides of a block, in braces.
use Rattle.std.specs.Prelude.{ℕ, List, ◌++◌, drop, codes}
use Rattle.sp_order.specs.Precedence.{Tree, leaves}
use Rattle.job_writer.specs.Canonical.{WrittenLeaf, tree_text}

abbrev pub sides_text : List (List ℕ) → Tree → Tree → List WrittenLeaf → List ℕ
sides_text names left right written =
    codes "{ " ++ tree_text names left written ++ codes " " ++ tree_text names right (drop (leaves left) written) ++ codes " }"
