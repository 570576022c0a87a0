-- How a program ends: what was written to out, and why it ended.
use Rattle.std.specs.Prelude.{ℕ, ◌<◌, List, length, Option, None, Some}
use Rattle.std.specs.Io.KnownBytes.{Appends, Keeps}
use Rattle.bt_io.specs.Bytes.{AppendsFront}
use Rattle.program_io.specs.declared.program.Stop.{Stop}
use Rattle.program_io.specs.declared.program.Stop.TheVariants.{ReadFault, Refused, Memory}
use Rattle.program_io.specs.declared.program.End.{End}
use Rattle.program_io.specs.declared.program.End.TheVariants.{Done, Stopped, WriteFault}

-- Below, `Answers told lines` says that the answer `told` is right, and that `lines` report it.

-- Out took all lines of the right answer `told`.
pub record Printed {T : Type 0} (Answers : T → List ℕ → Type 0) (told : T) (old new : Option (List ℕ)) : Type 0 where
  pub lines : List ℕ
  pub answers : Answers told lines
  pub taken : Appends old new lines

-- Out took a front of the lines of the right answer `told`, which are longer than the room that out guaranteed.
pub record PrintedFront {T : Type 0} (Answers : T → List ℕ → Type 0) (told : T) (old new : Option (List ℕ)) (room : ℕ) : Type 0 where
  pub lines : List ℕ
  pub answers : Answers told lines
  pub taken : AppendsFront old new lines
  pub long : room < length lines

-- whether the end comes with an answer, and what out took: all its lines, a front of them, or nothing
abbrev pub Prints : {T F : Type 0} → (T → List ℕ → Type 0) → End F → Option T → Option (List ℕ) → Option (List ℕ) → ℕ → Type 0
Prints Answers Done (Some told) old new room = Printed Answers told old new
Prints Answers WriteFault (Some told) old new room = PrintedFront Answers told old new room
Prints Answers (Stopped stop) None old new room = Keeps old new
Prints Answers Done None old new room = ⊥
Prints Answers WriteFault None old new room = ⊥
Prints Answers (Stopped stop) (Some told) old new room = ⊥

-- Below, `Refuses fault` says that the input is refused for this reason. `ReadsFailed` and `WritesFailed` say that the
-- fault count of the shelf, or of out, rose.

-- what each `Stop` implies: a failed read, a justified refusal, or nothing when out of memory
abbrev pub StopCause : {F : Type 0} → Stop F → (F → Type 0) → Type 0 → Type 0
StopCause ReadFault Refuses ReadsFailed = ReadsFailed
StopCause (Refused fault) Refuses ReadsFailed = Refuses fault
StopCause Memory Refuses ReadsFailed = Unit {0}

-- what each `End` implies: nothing when done, the cause of the stop, or a failed write
abbrev pub EndCause : {F : Type 0} → End F → (F → Type 0) → Type 0 → Type 0 → Type 0
EndCause Done Refuses ReadsFailed WritesFailed = Unit {0}
EndCause (Stopped stop) Refuses ReadsFailed WritesFailed = StopCause stop Refuses ReadsFailed
EndCause WriteFault Refuses ReadsFailed WritesFailed = WritesFailed
