-- What the steps of a run of a script answer: the reading of its file, and the writing of its text.
use Rattle.std.specs.Prelude.{ℕ, ◌<◌, List, length, Option, IfSome}
use Rattle.std.specs.Io.KnownBytes.{Appends, Keeps}
use Rattle.limits.specs.declared.TheConstants.{MOST_SCRIPT_BYTES}
use Rattle.bt_io.specs.Bytes.{AppendsFront}
use Rattle.batch_script.specs.declared.status.ScriptStatus.{ScriptStatus}
use Rattle.batch_script.specs.declared.status.ScriptStatus.TheVariants.{Done, ReadFault, TooLong, WriteFault, Memory}

-- why a run could not read its file to the end
abbrev pub StopsReading : ScriptStatus → Option (List ℕ) → Type 0 → Type 0
StopsReading ReadFault held ReadsFailed = ReadsFailed
StopsReading TooLong held ReadsFailed = IfSome held (λ bytes. MOST_SCRIPT_BYTES < length bytes)
StopsReading Memory held ReadsFailed = Unit {0}
StopsReading other held ReadsFailed = ⊥

-- what out took of a text, and why it did not take all
abbrev pub Writes : List ℕ → ScriptStatus → Option (List ℕ) → Option (List ℕ) → Type 0 → ℕ → Type 0
Writes text Done old new WritesFailed room = Appends old new text
Writes text WriteFault old new WritesFailed room = AppendsFront old new text × WritesFailed × (room < length text)
Writes text Memory old new WritesFailed room = Keeps old new
Writes text other old new WritesFailed room = ⊥

-- a write fault comes only where the text of bytes that were read is longer than the room that out has left
abbrev pub FailsPast : (List ℕ → Type 0) → (List ℕ → List ℕ) → ScriptStatus → ℕ → Type 0
FailsPast Read text WriteFault room = (bytes : List ℕ) × Read bytes × (room < length (text bytes))
FailsPast Read text status room = Unit {0}
