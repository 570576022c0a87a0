-- The text of a script: the lines of its batches, each served after those before it.
use Rattle.std.specs.Prelude.{ℕ, ◌+◌, List, [], ◌∷◌, ◌++◌, Option, codes}
use Rattle.std.specs.Fmt.{decimal}
use Rattle.batch_script.specs.Scripts.{ScriptValue, good, bad, script_of}

-- The text of batches, from the one of this number on. `lines` is what a batch prints, by its number and the state
-- before it, and `after` is the state after it.
abbrev pub batches_text : {S C : Type 0} → (ℕ → S → List C → List ℕ) → (S → List C → S) → ℕ → S → List (List C) → List ℕ
batches_text lines after number state [] = []
batches_text lines after number state (calls ∷ batches) =
    lines number state calls ++ batches_text lines after (number + 1) (after state calls) batches

-- the text of a script; where there is none, nothing
abbrev pub text_of_value : {S C : Type 0} → (ℕ → S → List C → List ℕ) → (S → List C → S) → S → ScriptValue C → List ℕ
text_of_value lines after opening (good batches) = batches_text lines after 0 opening batches
text_of_value lines after opening (bad fault) = []

-- the text of the script that these bytes are to a program, from its opening state on
abbrev pub script_text : {S C : Type 0} → (List (List ℕ) → Option C) → (ℕ → S → List C → List ℕ) → (S → List C → S) → S → List ℕ → List ℕ
script_text call_of lines after opening bytes = text_of_value lines after opening (script_of call_of bytes)

-- how the line of a call begins: its batch, its place there, and its worker
abbrev pub line_front : ℕ → ℕ → ℕ → List ℕ
line_front batch place worker =
    codes "batch " ++ decimal batch ++ codes " place " ++ decimal place ++ codes " worker " ++ decimal worker ++ codes " "
