-- A script: a text whose lines are calls, in batches that lines `go` end.
use Rattle.std.specs.Prelude.{ℕ, ◌+◌, ◌<◌, ◌≤◌, List, [], ◌∷◌, length, map, filter, Bool, true, false, not, ◌||◌, ◌==◌, nat_le, Option, Some, None, if◌then◌else◌, codes}
use Rattle.std.specs.List.{slice_split, filter_map}
use Rattle.std.specs.Option.{option_or, is_some}
use Rattle.std.specs.Str.{bytes_eq}
use Rattle.limits.specs.declared.TheConstants.{MOST_BATCH_CALLS, MOST_SCRIPT_CALLS}
use Rattle.batch_script.specs.declared.fault.ScriptFault.{ScriptFault}
use Rattle.batch_script.specs.declared.fault.ScriptFault.TheVariants.{Call, Batch, Calls}

-- a space, a tab or a carriage return
abbrev pub is_blank : ℕ → Bool
is_blank byte = byte == 32 || byte == 9 || byte == 13

-- a line feed
abbrev pub is_line_feed : ℕ → Bool
is_line_feed byte = byte == 10

-- whether a list has an element
abbrev pub is_some_of : {X : Type 0} → List X → Bool
is_some_of [] = false
is_some_of (x ∷ xs) = true

-- the words of a line: what stands between its blanks
abbrev pub words : List ℕ → List (List ℕ)
words line = filter (λ word. is_some_of word) (slice_split (λ byte. is_blank byte) line)

-- a line: its number in the text, and its words
pub record Line : Type 0 where
  pub number : ℕ
  pub words : List (List ℕ)

-- lines that are numbered from this number on
abbrev pub lines_from : ℕ → List (List ℕ) → List Line
lines_from number [] = []
lines_from number (line ∷ lines) = record { number = number; words = words line } ∷ lines_from (number + 1) lines

-- lines are cut at line feeds, and are numbered from 1
abbrev pub lines_of : List ℕ → List Line
lines_of bytes = lines_from 1 (slice_split (λ byte. is_line_feed byte) bytes)

-- the words of the line that ends a batch
abbrev pub are_go : List (List ℕ) → Bool
are_go [] = false
are_go (word ∷ []) = bytes_eq word (codes "go")
are_go (word ∷ next ∷ words) = false

-- the lines that are to be calls, batch by batch: a line without words is skipped
abbrev pub groups_of : List Line → List (List Line)
groups_of lines = slice_split (λ (line : Line). are_go line.words) (filter (λ (line : Line). is_some_of line.words) lines)

-- The fault of a line that is to be a call, if any, where `number` calls stand before it in the script, and `place` of
-- these in its batch: it is no call, or one more than a batch may have, or one more than a script may have. The first counts.
abbrev pub fault_at : {C : Type 0} → (List (List ℕ) → Option C) → ℕ → ℕ → Line → Option ScriptFault
fault_at call_of number place line =
    if not (is_some (call_of line.words)) then Some (Call line.number)
    else if nat_le MOST_BATCH_CALLS place then Some (Batch line.number)
    else if nat_le MOST_SCRIPT_CALLS number then Some (Calls line.number)
    else None

-- the first fault of the lines of a batch
abbrev pub fault_in : {C : Type 0} → (List (List ℕ) → Option C) → ℕ → ℕ → List Line → Option ScriptFault
fault_in call_of number place [] = None
fault_in call_of number place (line ∷ lines) =
    option_or (fault_at call_of number place line) (fault_in call_of (number + 1) (place + 1) lines)

-- the first fault of all batches
abbrev pub fault_among : {C : Type 0} → (List (List ℕ) → Option C) → ℕ → List (List Line) → Option ScriptFault
fault_among call_of number [] = None
fault_among call_of number (group ∷ groups) =
    option_or (fault_in call_of number 0 group) (fault_among call_of (number + length group) groups)

-- the calls that the words of lines spell
abbrev pub calls_in : {C : Type 0} → (List (List ℕ) → Option C) → List Line → List C
calls_in call_of lines = filter_map (λ (line : Line). call_of line.words) lines

-- the calls of each batch; an empty batch is dropped
abbrev pub batches_in : {C : Type 0} → (List (List ℕ) → Option C) → List (List Line) → List (List C)
batches_in call_of groups = filter (λ batch. is_some_of batch) (map (λ group. calls_in call_of group) groups)

-- what a text is: a script with these batches, or no script, by its first fault
pub data ScriptValue (C : Type 0) : Type 0 where
  good : (batches : List (List C)) → ScriptValue C
  bad : (fault : ScriptFault) → ScriptValue C

-- the fault, if there is one, or else the batches
abbrev pub unless_fault : {C : Type 0} → Option ScriptFault → List (List C) → ScriptValue C
unless_fault (Some fault) batches = bad fault
unless_fault None batches = good batches

-- What a text is to a program, whose calls `call_of` gives.
abbrev pub script_of : {C : Type 0} → (List (List ℕ) → Option C) → List ℕ → ScriptValue C
script_of call_of bytes =
    unless_fault (fault_among call_of 0 (groups_of (lines_of bytes))) (batches_in call_of (groups_of (lines_of bytes)))

-- what a batch of a script is: at least one call, and no more than it may have
pub record IsBatch {C : Type 0} (calls : List C) : Type 0 where
  pub some : 0 < length calls
  pub few : length calls ≤ MOST_BATCH_CALLS
