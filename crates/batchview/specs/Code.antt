-- What only the code and its proofs cite: the file of a view, why it was not read, and the status of a run by its end.
use Rattle.std.specs.Prelude.{ℕ, ◌<◌, List, length}
use Rattle.program_io.specs.declared.program.Stop.{Stop}
use Rattle.program_io.specs.declared.program.Stop.TheVariants as stop
use Rattle.program_io.specs.declared.program.End.{End}
use Rattle.program_io.specs.declared.program.End.TheVariants.{Done, Stopped, WriteFault}
use Rattle.report_reader.specs.Stops.{StopsAt}
use Rattle.batchview.specs.Lines.{status_line}
use Rattle.batchview.specs.Outcomes.{HasNoReport}
use Rattle.batchview.specs.declared.words.View.{View}
use Rattle.batchview.specs.declared.status.ViewRefusal.{ViewRefusal}
use Rattle.batchview.specs.declared.status.ViewRefusal.TheVariants.{NoReport}
use Rattle.batchview.specs.declared.status.ViewStatus.{ViewStatus}
use Rattle.batchview.specs.declared.status.ViewStatus.TheVariants as status

-- the file that a view names
abbrev pub file_in : View → List ℕ
file_in view = view.file.now

-- why no picture was made of a text
abbrev pub StopsDrawing : Stop ViewRefusal → List ℕ → Type 0
StopsDrawing (stop.Refused (NoReport line)) text = HasNoReport text × StopsAt text line
StopsDrawing stop.Memory text = Unit {0}
StopsDrawing _ text = ⊥

-- the status of a run that stopped before it wrote
abbrev pub stopped : Stop ViewRefusal → ViewStatus
stopped stop.ReadFault = status.ReadFault
stopped (stop.Refused refusal) = status.Refused refusal
stopped stop.Memory = status.Memory

-- the status of a run by its end
abbrev pub status_of : End ViewRefusal → ViewStatus
status_of Done = status.Done
status_of (Stopped why) = stopped why
status_of WriteFault = status.WriteFault

-- the line on err of each end
abbrev pub end_line : End ViewRefusal → List ℕ
end_line end = status_line (status_of end)

-- a write fault comes only where the picture is longer than the room that out has left
abbrev pub FailsPast : (List ℕ → Type 0) → ViewStatus → ℕ → Type 0
FailsPast Drawn status.WriteFault room = (drawn : List ℕ) × Drawn drawn × (room < length drawn)
FailsPast Drawn _ room = Unit {0}
