-- The number of leaves that items make, without a bound.
use Rattle.std.specs.Prelude.{ℕ, ◌+◌, ◌*◌}
use Rattle.job_syntax.specs.Blocks.{copies_of}
use Rattle.job_syntax.specs.Grammar.{Items, nothing, leaf_then, block_then}

-- a leaf counts 1, and a block the count of its body times its copies
abbrev pub count : Items → ℕ
count nothing = 0
count (leaf_then leaf more) = 1 + count more
count (block_then kind body more) = copies_of kind * count body + count more

-- the count of the first item alone
abbrev pub count_first : Items → ℕ
count_first nothing = 0
count_first (leaf_then leaf more) = 1
count_first (block_then kind body more) = copies_of kind * count body
