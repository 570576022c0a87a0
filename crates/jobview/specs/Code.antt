-- What only the code and its proofs cite: what a view asks for, why nothing is shown, and the status of a run by its
-- end.
use Rattle.std.specs.Prelude.{◌≡◌, ℕ, ◌<◌, ◌≤◌, List, length}
use Rattle.program_io.specs.declared.program.Stop.{Stop}
use Rattle.program_io.specs.declared.program.Stop.TheVariants as stop
use Rattle.program_io.specs.declared.program.End.{End}
use Rattle.program_io.specs.declared.program.End.TheVariants.{Done, Stopped, WriteFault}
use Rattle.sp_order.specs.Depth.{depth_of}
use Rattle.sp_order.specs.Jobs.{JobValue}
use Rattle.job_lang.specs.Language.{IsFaultOf}
use Rattle.job_writer.specs.Canonical.{canonical_text}
use Rattle.jobview.specs.Words.{Asked}
use Rattle.jobview.specs.Lines.{status_line}
use Rattle.jobview.specs.Outcomes.{HasDeepJob}
use Rattle.jobview.specs.declared.words.Form.{Form}
use Rattle.jobview.specs.declared.words.Form.TheVariants.{Rows, Text}
use Rattle.jobview.specs.declared.words.View.{View}
use Rattle.jobview.specs.declared.status.ViewRefusal.{ViewRefusal}
use Rattle.jobview.specs.declared.status.ViewRefusal.TheVariants.{TooLong, Job, TooDeep}
use Rattle.jobview.specs.declared.status.ViewStatus.{ViewStatus}
use Rattle.jobview.specs.declared.status.ViewStatus.TheVariants as status
use Rattle.limits.specs.declared.TheConstants.{MOST_OPEN_BLOCKS}

-- what a view asks for
abbrev pub asked_in : View → Asked
asked_in view = record { file = view.file.now; form = view.form }

-- the canonical text of a job that is at most `MOST_OPEN_BLOCKS` deep
pub record IsTextOf (job : JobValue) (shown : List ℕ) : Type 0 where
  pub deep : depth_of job.shape ≤ MOST_OPEN_BLOCKS
  pub are : shown ≡ canonical_text job

-- why a job has no canonical text
abbrev pub StopsText : Stop ViewRefusal → JobValue → Type 0
StopsText (stop.Refused TooDeep) job = MOST_OPEN_BLOCKS < depth_of job.shape
StopsText (stop.Refused TooLong) job = ⊥
StopsText (stop.Refused (Job fault)) job = ⊥
StopsText stop.ReadFault job = ⊥
StopsText stop.Memory job = Unit {0}

-- why the form shows nothing of a text
abbrev pub StopsShowing : Stop ViewRefusal → Form → List ℕ → Type 0
StopsShowing (stop.Refused (Job fault)) form bytes = IsFaultOf bytes fault
StopsShowing (stop.Refused TooDeep) Text bytes = HasDeepJob bytes
StopsShowing (stop.Refused TooDeep) Rows bytes = ⊥
StopsShowing (stop.Refused TooLong) form bytes = ⊥
StopsShowing stop.ReadFault form bytes = ⊥
StopsShowing stop.Memory form bytes = Unit {0}

-- the status of a run that stopped before it wrote
abbrev pub stopped : Stop ViewRefusal → ViewStatus
stopped stop.ReadFault = status.ReadFault
stopped (stop.Refused refusal) = status.Refused refusal
stopped stop.Memory = status.Memory

-- the status of a run by its end
abbrev pub status_of : End ViewRefusal → ViewStatus
status_of Done = status.Done
status_of (Stopped why) = stopped why
status_of WriteFault = status.WriteFault

-- the line on err of each end
abbrev pub end_line : End ViewRefusal → List ℕ
end_line end = status_line (status_of end)

-- a write fault comes only where what is shown is longer than the room that out has left
abbrev pub FailsPast : (List ℕ → Type 0) → ViewStatus → ℕ → Type 0
FailsPast Shown status.WriteFault room = (shown : List ℕ) × Shown shown × (room < length shown)
FailsPast Shown _ room = Unit {0}
