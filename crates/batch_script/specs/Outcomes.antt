-- What each status of a program over scripts says: one definition for each concern, with a line for each status. Below,
-- `script` gives what bytes are to the program, and `text` what it prints for them.
use Rattle.std.specs.Prelude.{◌≡◌, ℕ, ◌<◌, ◌≤◌, ◌⊎◌, List, length, Bool, IsTrue, Option, None, Some, IfSome}
use Rattle.std.specs.Io.KnownBytes.{Appends, Keeps}
use Rattle.limits.specs.declared.TheConstants.{MOST_SCRIPT_BYTES}
use Rattle.bt_io.specs.Bytes.{AppendsFront}
use Rattle.program_io.specs.Reading.{WasRead}
use Rattle.batch_script.specs.Scripts.{ScriptValue, good, bad}
use Rattle.batch_script.specs.declared.fault.ScriptFault.{ScriptFault}
use Rattle.batch_script.specs.declared.status.ScriptStatus.{ScriptStatus}
use Rattle.batch_script.specs.declared.status.ScriptStatus.TheVariants.{Done, Usage, ReadFault, TooLong, Bad, WriteFault, Memory}

-- these bytes were read to the end of the file that the words name; `held` gives the bytes of a file, if known
abbrev pub Reads : Option (List ℕ) → (List ℕ → Option (List ℕ)) → List ℕ → Type 0
Reads None held = λ bytes. ⊥
Reads (Some file) held = WasRead MOST_SCRIPT_BYTES (held file)

-- the bytes are a script
abbrev pub IsGood : {C : Type 0} → ScriptValue C → Type 0
IsGood (good batches) = Unit {0}
IsGood (bad fault) = ⊥

-- bytes that were read are a script, and `Took` holds of its text
pub record HasText {C : Type 0} (Read : List ℕ → Type 0) (script : List ℕ → ScriptValue C) (text : List ℕ → List ℕ) (Took : List ℕ → Type 0) : Type 0 where
  pub bytes : List ℕ
  pub read : Read bytes
  pub is_script : IsGood (script bytes)
  pub took : Took (text bytes)

-- what out took: at done the whole text of the bytes that were read, at a write fault a front of it, otherwise nothing
abbrev pub Prints : {C : Type 0} → (List ℕ → Type 0) → (List ℕ → ScriptValue C) → (List ℕ → List ℕ) → ScriptStatus → Option (List ℕ) → Option (List ℕ) → Type 0
Prints Read script text Done old new = HasText Read script text (λ bytes. Appends old new bytes)
Prints Read script text WriteFault old new = HasText Read script text (λ bytes. AppendsFront old new bytes)
Prints Read script text status old new = Keeps old new

-- bytes that were read are no script, by this fault
pub record HasFault {C : Type 0} (held : Option (List ℕ)) (script : List ℕ → ScriptValue C) (fault : ScriptFault) : Type 0 where
  pub bytes : List ℕ
  pub read : WasRead MOST_SCRIPT_BYTES held bytes
  pub is : script bytes ≡ bad fault

-- Why a status comes where there is a file: by the bytes held under it, and by whether the count of faults of the shelf
-- or of out rose.
abbrev pub HasCause : {C : Type 0} → (List ℕ → ScriptValue C) → ScriptStatus → Option (List ℕ) → Type 0 → Type 0 → Type 0
HasCause script Done held ReadsFailed WritesFailed = Unit {0}
HasCause script Usage held ReadsFailed WritesFailed = ⊥
HasCause script ReadFault held ReadsFailed WritesFailed = ReadsFailed
HasCause script TooLong held ReadsFailed WritesFailed = IfSome held (λ bytes. MOST_SCRIPT_BYTES < length bytes)
HasCause script (Bad fault) held ReadsFailed WritesFailed = HasFault held script fault
HasCause script WriteFault held ReadsFailed WritesFailed = WritesFailed
HasCause script Memory held ReadsFailed WritesFailed = Unit {0}

-- the status is this one, unless memory ran out
abbrev pub IsUnlessMemory : ScriptStatus → ScriptStatus → Type 0
IsUnlessMemory status wanted = (status ≡ wanted) ⊎ (status ≡ Memory)

-- Which status comes where the bytes of the file are known and no stream fails: the one for these bytes, or memory.
pub record Completes {C : Type 0} (script : List ℕ → ScriptValue C) (status : ScriptStatus) (held : Option (List ℕ)) (ReadsFailed WritesFailed : Type 0) : Type 0 where
  pub too_long : (bytes : List ℕ) → held ≡ Some bytes → ¬ ReadsFailed
      → MOST_SCRIPT_BYTES < length bytes → IsUnlessMemory status TooLong
  pub refused : (bytes : List ℕ) (fault : ScriptFault) → held ≡ Some bytes → ¬ ReadsFailed
      → length bytes ≤ MOST_SCRIPT_BYTES → script bytes ≡ bad fault → IsUnlessMemory status (Bad fault)
  pub accepted : (bytes : List ℕ) (batches : List (List C)) → held ≡ Some bytes → ¬ ReadsFailed → ¬ WritesFailed
      → length bytes ≤ MOST_SCRIPT_BYTES → script bytes ≡ good batches → IsUnlessMemory status Done

-- Where the shelf never fails and holds a script, and its text is within the room that out has left, the run is done,
-- unless memory runs out.
abbrev pub IsAssured : {C : Type 0} → (List ℕ → ScriptValue C) → (List ℕ → List ℕ) → ScriptStatus → Option (List ℕ) → Bool → ℕ → Type 0
IsAssured {C} script text status held never_fails room =
    (bytes : List ℕ) (batches : List (List C)) → held ≡ Some bytes → length bytes ≤ MOST_SCRIPT_BYTES → script bytes ≡ good batches
    → IsTrue never_fails → length (text bytes) ≤ room → IsUnlessMemory status Done
