-- The calls of the program `teller` over scripts, and what it prints.
use Rattle.std.specs.Prelude.{ℕ, List, [], ◌∷◌, length, Option, Some, None, Bool, true, false, codes}

-- the call that words spell: one word, which is seen by its length
abbrev pub word_call : List (List ℕ) → Option ℕ
word_call (word ∷ []) = Some (length word)
word_call _ = None

-- what a batch prints, by whether one was served before it
abbrev pub told : Bool → List ℕ
told true = codes "later\n"
told false = codes "first\n"
