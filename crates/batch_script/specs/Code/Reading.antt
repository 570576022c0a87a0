-- A script as it is read, line by line.
use Rattle.std.specs.Prelude.{◌≡◌, ℕ, ◌+◌, List, [], ◌∷◌, ◌++◌, length, nat_le, Option, Some, None, if◌then◌else◌}
use Rattle.limits.specs.declared.TheConstants.{MOST_BATCH_CALLS, MOST_SCRIPT_CALLS}
use Rattle.batch_script.specs.declared.fault.ScriptFault.{ScriptFault}
use Rattle.batch_script.specs.declared.fault.ScriptFault.TheVariants.{Call, Batch, Calls}
use Rattle.batch_script.specs.declared.fault.ScriptErr.{ScriptErr}
use Rattle.batch_script.specs.declared.fault.ScriptErr.TheVariants.{Bad, Memory}
use Rattle.batch_script.specs.Scripts.{Line, ScriptValue, good, bad, is_some_of, are_go}

-- what was read so far: the batches that are done, the calls of the next one, and the number of calls in all
pub record Read (C : Type 0) : Type 0 where
  pub done : List (List C)
  pub begun : List C
  pub number : ℕ

-- the batches with the one that is begun, unless that is empty
abbrev pub closed : {C : Type 0} → List (List C) → List C → List (List C)
closed done [] = done
closed done (call ∷ begun) = done ++ (call ∷ begun) ∷ []

-- what was read, after the end of a batch
abbrev pub ended : {C : Type 0} → Read C → Read C
ended read = record { done = closed read.done read.begun; begun = []; number = read.number }

-- the fault of a line with this call or none, where `number` calls stand before it, and `place` in its batch
abbrev pub fault_of_call : {C : Type 0} → Option C → ℕ → ℕ → ℕ → Option ScriptFault
fault_of_call None number place line = Some (Call line)
fault_of_call (Some call) number place line =
    if nat_le MOST_BATCH_CALLS place then Some (Batch line) else if nat_le MOST_SCRIPT_CALLS number then Some (Calls line) else None

-- the calls with one more, where there is one
abbrev pub with_call : {C : Type 0} → List C → Option C → List C
with_call begun None = begun
with_call begun (Some call) = begun ++ call ∷ []

-- what was read, after a line with this call
abbrev pub called : {C : Type 0} → Read C → Option C → Read C
called read call = record { done = read.done; begun = with_call read.begun call; number = read.number + 1 }

-- the fault, if there is one, or else the value of the rest
abbrev pub faulty_or : {C : Type 0} → Option ScriptFault → ScriptValue C → ScriptValue C
faulty_or (Some fault) rest = bad fault
faulty_or None rest = rest

-- The value of a text of which these batches are done, these calls of the next batch are read, `number` calls in all,
-- and these lines are left.
abbrev pub script_from : {C : Type 0} → (List (List ℕ) → Option C) → ℕ → List (List C) → List C → List Line → ScriptValue C
script_from call_of number done begun [] = good (closed done begun)
script_from call_of number done begun (line ∷ lines) =
    if is_some_of line.words then
    (if are_go line.words then script_from call_of number (closed done begun) [] lines
    else faulty_or (fault_of_call (call_of line.words) number (length begun) line.number) (script_from call_of (number + 1) done (with_call begun (call_of line.words)) lines))
    else script_from call_of number done begun lines

-- the value of a text of which this much was read and these lines are left
abbrev pub comes_to : {C : Type 0} → (List (List ℕ) → Option C) → Read C → List Line → ScriptValue C
comes_to call_of read lines = script_from call_of read.number read.done read.begun lines

-- a call is refused for this fault, or because memory ran out
abbrev pub IsRefusal : Option ScriptFault → ScriptErr → Type 0
IsRefusal fault (Bad why) = fault ≡ Some why
IsRefusal fault Memory = Unit {0}
