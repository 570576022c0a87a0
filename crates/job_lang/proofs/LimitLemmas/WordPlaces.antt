-- The words behind those that were passed.
use Rattle.std.proofs.Common.{◌≡◌, ℕ, ◌+◌, ◌<◌, List, [], ◌∷◌, Option, Some, None, length, drop, sym, ap, ◌∙◌, arith, length-drop}
use Rattle.std.specs.Prelude.{MatchOption}
use Rattle.std.proofs.lemmas.List.{drop-drop}
use Rattle.job_syntax.specs.declared.lexer.word.WordOnLine.{WordOnLine}

-- what is left behind the next word, if there is one
behind_next : (next : Option WordOnLine) (left rest : List WordOnLine) → MatchOption next ((left ≡ []) × (rest ≡ [])) (λ word. left ≡ word ∷ rest) → rest ≡ drop 1 left
behind_next None left rest none = none.1 ∙ ap (drop 1) (sym none.0)
behind_next (Some word) left rest is = ap (drop 1) (sym is)

pub one_more : (next : Option WordOnLine) (words left rest : List WordOnLine) (passed : ℕ) → left ≡ drop passed words
    → MatchOption next ((left ≡ []) × (rest ≡ [])) (λ word. left ≡ word ∷ rest) → rest ≡ drop (passed + 1) words
one_more next words left rest passed is taken = behind_next next left rest taken ∙ ap (drop 1) is ∙ drop-drop 1 passed words

pub some_word : (words : List WordOnLine) (place : ℕ) → place < length words → drop place words ≡ [] → ⊥
some_word words place within none =
    let left = length-drop place words in
    let empty = ap length none in
    omega (arith, left, empty, within)
