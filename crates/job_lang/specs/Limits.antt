-- The limits of a text whose tokens have no fault: it may have too many leaves, or an argument that does not fit 32
-- bits in some copy.
use Rattle.std.specs.Prelude.{◌≡◌, ℕ, ◌+◌, ◌-◌, ◌*◌, ◌<◌, ◌≤◌, ◌^◌, List, [], ◌∷◌, ◌++◌, filter, Bool, true, false, ◌&&◌, Option, Some, None, nat_le}
use Rattle.limits.specs.declared.TheConstants.{MOST_LEAVES}
use Rattle.job_syntax.specs.declared.lexer.word.Word.{Word}
use Rattle.job_syntax.specs.declared.lexer.word.Word.TheVariants.{Copies}
use Rattle.job_syntax.specs.declared.lexer.word.WordOnLine.{WordOnLine}
use Rattle.job_syntax.specs.Grammar.{Items, nothing, leaf_then, block_then, BlockKind, seq_block, par_block, for_loop, pfor_loop, Leaf, items_words, ◌then◌}
use Rattle.job_syntax.specs.Faults.{words_of}
use Rattle.job_syntax.specs.Blocks.{word_number}
use Rattle.job_syntax.specs.Arguments.{leaf_argument}
use Rattle.job_lang.specs.Counts.{count, count_first}

-- The line of the first token of the first top-level item with which the leaves are more than a job may have.
pub record IsLeavesLine (tokens : List WordOnLine) (items : Items) (line : ℕ) : Type 0 where
  pub before : Items
  pub from_item : Items
  pub parts : before then from_item ≡ items
  pub few : count before ≤ MOST_LEAVES
  pub many : MOST_LEAVES < count before + count_first from_item
  pub front : List WordOnLine
  pub first : WordOnLine
  pub behind : List WordOnLine
  pub stands : front ++ first ∷ behind ≡ tokens
  pub place : items_words before ≡ words_of front
  pub line_is : line ≡ first.line

-- the number of copies of the innermost loop inside a block, where `copies` is that outside it
abbrev pub copies_inside : ℕ → BlockKind → ℕ
copies_inside copies seq_block = copies
copies_inside copies par_block = copies
copies_inside copies (for_loop number) = word_number number
copies_inside copies (pfor_loop number) = word_number number

-- there is a copy, and factor and addend make a number past 32 bits in the last one
abbrev pub is_out_of_range : ℕ → ℕ × ℕ → Bool
is_out_of_range copies by = nat_le 1 copies && nat_le (2 ^ 32) (by.0 * (copies - 1) + by.1)

-- for each argument that depends on the copy, in the order of the text, whether it is out of range; `copies` is the
-- number of copies of the innermost loop
abbrev pub argument_range_flags : ℕ → Option Word → List Bool
argument_range_flags copies (Some (Copies (Some by))) = is_out_of_range copies by ∷ []
argument_range_flags copies _ = []

abbrev pub leaf_range_flags : ℕ → Leaf → List Bool
leaf_range_flags copies leaf = argument_range_flags copies (leaf_argument leaf)

abbrev pub range_flags : ℕ → Items → List Bool
range_flags copies nothing = []
range_flags copies (leaf_then leaf more) = leaf_range_flags copies leaf ++ range_flags copies more
range_flags copies (block_then kind body more) = range_flags (copies_inside copies kind) body ++ range_flags copies more

abbrev pub depends_on_copy : Word → Bool
depends_on_copy (Copies by) = true
depends_on_copy _ = false

-- the line of the first token whose flag is set
abbrev pub first_line : List Bool → List WordOnLine → Option ℕ
first_line (true ∷ flags) (token ∷ tokens) = Some token.line
first_line (false ∷ flags) (token ∷ tokens) = first_line flags tokens
first_line _ _ = None

-- the line of the first argument that is out of range in some copy, if there is one
abbrev pub argument_line : List WordOnLine → Items → Option ℕ
argument_line tokens items = first_line (range_flags 0 items) (filter (λ token. depends_on_copy token.word) tokens)
