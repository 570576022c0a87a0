-- Everything that a run of the program's words owes, except its line on err.
use Rattle.std.specs.Prelude.{◌≡◌, ◌↔◌, ℕ, List, Bool, Option, IsNone}
use Rattle.std.specs.Option.{ForSome}
use Rattle.batch_history.specs.declared.report.Report.{Report}
use Rattle.batchrun.specs.Words.{Command}
use Rattle.batchrun.specs.Outcomes.{Prints}
use Rattle.batchrun.specs.Commands.{Runs, PrintsSummary, Owes}
use Rattle.batchrun.specs.declared.status.Status.{Status}
use Rattle.batchrun.specs.declared.status.Status.TheVariants.{Usage}

pub record IsRun (words : Option Command) (held : List ℕ → Option (List ℕ)) (status : Status) (report : Option Report) (old new : Option (List ℕ)) (ReadsFailed WritesFailed : Type 0) (never_fails : Bool) (room : ℕ) : Type 0 where
  pub headline : Prints (Runs words held) status report old new
  pub summary : PrintsSummary words status old new
  pub usage : (status ≡ Usage) ↔ IsNone words
  pub owes : ForSome words (λ command. Owes command held status report ReadsFailed WritesFailed never_fails room)
