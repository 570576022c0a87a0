-- The summary of a run: six lines of totals.
use Rattle.std.specs.Prelude.{◌≡◌, ℕ, ◌<◌, ◌^◌, List, ◌++◌, length, codes}
use Rattle.std.specs.Fmt.{decimal}
use Rattle.sp_order.specs.Precedence.{leaf_count}
use Rattle.sp_order.specs.Jobs.{JobValue}
use Rattle.batch_history.specs.Book.{flat}
use Rattle.batch_history.specs.Tally.{tally_of, tally_of_acts}
use Rattle.batch_history.specs.declared.tally.Tally.{Tally}
use Rattle.batch_history.specs.declared.report.Report.{Report}

unfoldable pub run_line : ℕ → ℕ → ℕ → List ℕ
run_line seed size workers = codes "seed " ++ decimal seed ++ codes " size " ++ decimal size ++ codes " workers " ++ decimal workers ++ codes "\n"

unfoldable pub leaves_line : ℕ → ℕ → List ℕ
leaves_line leaves calls = codes "leaves " ++ decimal leaves ++ codes " calls " ++ decimal calls ++ codes "\n"

unfoldable pub counter_line : ℕ → List ℕ
counter_line sum = codes "counter " ++ decimal sum ++ codes "\n"

unfoldable pub stack_line : ℕ → ℕ → List ℕ
stack_line pushed popped = codes "stack pushed " ++ decimal pushed ++ codes " popped " ++ decimal popped ++ codes "\n"

unfoldable pub tree_line : ℕ → ℕ → List ℕ
tree_line keys found = codes "tree keys " ++ decimal keys ++ codes " found " ++ decimal found ++ codes "\n"

unfoldable pub queue_line : ℕ → ℕ → List ℕ
queue_line inserted taken = codes "queue inserted " ++ decimal inserted ++ codes " taken " ++ decimal taken ++ codes "\n"

-- the lines of the four objects
abbrev pub objects_lines : Tally → List ℕ
objects_lines tally =
    counter_line tally.counter ++ stack_line tally.pushed tally.popped ++ tree_line tally.keys tally.found ++ queue_line tally.inserted tally.taken

-- the six lines of these numbers
abbrev pub six_lines : ℕ → ℕ → ℕ → ℕ → Tally → List ℕ
six_lines seed size workers leaves tally =
    run_line seed size workers ++ leaves_line leaves tally.calls ++ objects_lines tally

-- the summary of a report
abbrev pub summary_of_report : ℕ → ℕ → Report → List ℕ
summary_of_report seed size report = six_lines seed size report.workers (length report.rows) (tally_of (flat report.history))

-- the summary of a job, from its shape and acts alone
abbrev pub summary_of_job : ℕ → ℕ → ℕ → JobValue → List ℕ
summary_of_job seed size workers job = six_lines seed size workers (leaf_count job.shape) (tally_of_acts job.acts)

-- When the code can make a summary: there are as many rows as leaves, and the popped and the taken sums fit 64 bits.
pub record CanBeSummed (job : JobValue) (report : Report) : Type 0 where
  pub rows : length report.rows ≡ leaf_count job.shape
  pub popped : (tally_of (flat report.history)).popped < 2 ^ 64
  pub taken : (tally_of (flat report.history)).taken < 2 ^ 64
