-- The items that the grammar gives the tokens of a text.
use Rattle.std.specs.Prelude.{◌≤◌, List, [], ◌∷◌, ◌++◌, IsTrue}
use Rattle.std.specs.List.{AllByRecursion}
use Rattle.limits.specs.declared.TheConstants.{MOST_OPEN_BLOCKS}
use Rattle.job_syntax.specs.declared.lexer.word.WordOnLine.{WordOnLine}
use Rattle.job_syntax.specs.Blocks.{nesting}
use Rattle.job_syntax.specs.Faults.{words_of, has_good_numbers}
use Rattle.job_syntax.specs.Grammar.{Items, Derives}
use Rattle.job_syntax.specs.Visibility.{IsKnown}

-- each use of a name in the tokens, after those of `before`, sees a let of it
abbrev pub AreKnown : List WordOnLine → List WordOnLine → Type 0
AreKnown before [] = Unit {0}
AreKnown before (token ∷ tokens) = IsKnown (words_of before) token.word × AreKnown (before ++ token ∷ []) tokens

-- The grammar gives the tokens these items: the loose grammar derives them, no number has a leading zero or exceeds 32
-- bits, no more blocks are open at once than may be, and each use of a name sees a let of it.
pub record AreItemsOf (tokens : List WordOnLine) (items : Items) : Type 0 where
  pub derives : Derives (words_of tokens) items
  pub numbers : AllByRecursion (λ token. IsTrue (has_good_numbers token.word)) tokens
  pub nests : nesting items ≤ MOST_OPEN_BLOCKS
  pub known : AreKnown [] tokens
