-- Where the leaves of a job stand in its text.
use Rattle.std.specs.Prelude.{◌≡◌, ℕ, List, length, take, drop, map, slice_index}
use Rattle.job_syntax.specs.declared.lexer.word.Word.{Word}
use Rattle.job_syntax.specs.declared.lexer.word.WordOnLine.{WordOnLine}
use Rattle.job_syntax.specs.Grammar.{Items, leaf_words}
use Rattle.job_syntax.specs.ItemsOf.{AreItemsOf}
use Rattle.job_syntax.specs.Words.{words_on_lines}
use Rattle.job_lang.specs.Places.{PlacedLeaf, placed_leaves}

-- The line of the first token of a leaf's item, and the copy in which the leaf is of each loop around it, the outermost
-- loop first.
pub record Place : Type 0 where
  pub line : ℕ
  pub copies : List ℕ

-- the lines of tokens
abbrev pub lines_of : List WordOnLine → List ℕ
lines_of tokens = map (λ token. token.line) tokens

-- the place of a leaf among tokens with these lines
abbrev pub place_on : List ℕ → PlacedLeaf → Place
place_on lines at = record { line = slice_index lines at.before; copies = at.copies }

-- the places of the leaves of items that write these tokens, from left to right
abbrev pub places_of : List WordOnLine → Items → List Place
places_of tokens items = map (place_on (lines_of tokens)) (placed_leaves items)

-- The grammar gives the text items, and these are the places of their leaves.
pub record ArePlacesIn (text : List ℕ) (places : List Place) : Type 0 where
  pub items : Items
  pub read : AreItemsOf (words_on_lines text) items
  pub are : places ≡ places_of (words_on_lines text) items

-- behind so many of the words stand those of the leaf's item
abbrev pub StandsIn : List Word → PlacedLeaf → Type 0
StandsIn words at = take (length (leaf_words at.leaf)) (drop at.before words) ≡ leaf_words at.leaf
