-- How many times a block runs its items, how it treats names, and how deep blocks nest.
use Rattle.std.specs.Prelude.{ℕ, ◌+◌, max, Some}
use Rattle.job_names.specs.declared.kind.Kind.{Kind}
use Rattle.job_names.specs.declared.kind.Kind.TheVariants as kind
use Rattle.job_syntax.specs.declared.lexer.word.Word.{Word}
use Rattle.job_syntax.specs.declared.lexer.word.Word.TheVariants.{Number}
use Rattle.job_syntax.specs.Grammar.{Items, nothing, leaf_then, block_then, BlockKind, seq_block, par_block, for_loop, pfor_loop}

-- the value of a number word, else 0
abbrev pub word_number : Word → ℕ
word_number (Number (Some number)) = number
word_number _ = 0

-- how many times a block runs its items
abbrev pub copies_of : BlockKind → ℕ
copies_of seq_block = 1
copies_of par_block = 1
copies_of (for_loop copies) = word_number copies
copies_of (pfor_loop copies) = word_number copies

-- how a block treats the names of its lets
abbrev pub name_kind : BlockKind → Kind
name_kind seq_block = kind.Series
name_kind par_block = kind.Par
name_kind (for_loop copies) = kind.Loop
name_kind (pfor_loop copies) = kind.Loop

-- the largest number of blocks that are open at once
abbrev pub nesting : Items → ℕ
nesting nothing = 0
nesting (leaf_then leaf more) = nesting more
nesting (block_then kind body more) = max (nesting body + 1) (nesting more)
