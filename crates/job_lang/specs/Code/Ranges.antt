-- Each argument that depends on the copy fits 32 bits.
use Rattle.std.specs.Prelude.{ℕ, ◌+◌, ◌*◌, ◌<◌, ◌^◌, Option, Some}
use Rattle.job_syntax.specs.declared.lexer.word.Word.{Word}
use Rattle.job_syntax.specs.declared.lexer.word.Word.TheVariants.{Copies}
use Rattle.job_syntax.specs.Grammar.{Items, nothing, leaf_then, block_then, BlockKind, seq_block, par_block, for_loop, pfor_loop, Leaf}
use Rattle.job_syntax.specs.Blocks.{word_number}
use Rattle.job_syntax.specs.Arguments.{leaf_argument}

abbrev pub FitsArgument : ℕ → Option Word → Type 0
FitsArgument copy (Some (Copies (Some by))) = by.0 * copy + by.1 < 2 ^ 32
FitsArgument copy _ = Unit {0}

abbrev pub FitsLeaf : ℕ → Leaf → Type 0
FitsLeaf copy leaf = FitsArgument copy (leaf_argument leaf)

-- a property of copy `copy` of a block, or, where the block is a loop, of each of its copies
abbrev pub InEach : BlockKind → ℕ → (ℕ → Type 0) → Type 0
InEach seq_block copy P = P copy
InEach par_block copy P = P copy
InEach (for_loop copies) copy P = (k : ℕ) → k < word_number copies → P k
InEach (pfor_loop copies) copy P = (k : ℕ) → k < word_number copies → P k

-- the arguments of the items fit in copy `copy` of the innermost loop around them, and in each copy of the loops inside
abbrev pub Fits : ℕ → Items → Type 0
Fits copy nothing = Unit {0}
Fits copy (leaf_then leaf more) = FitsLeaf copy leaf × Fits copy more
Fits copy (block_then kind body more) = InEach kind copy (λ k. Fits k body) × Fits copy more
