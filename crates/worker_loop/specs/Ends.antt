-- When a worker of a run over the running table returns its pass.
use Rattle.std.specs.Prelude.{◌≡◌, ◌⊎◌, true}
use Rattle.core_table.specs.declared.table.Pass.{Pass}
use Rattle.core_table.specs.Passes.{view, pass_view}
use Rattle.worker_turns.specs.Stops.{KnowsStop}

-- the worker of this pass has seen the root done, or has set the stop word or found it set
abbrev pub HasEnded : Pass → Type 0
HasEnded pass = ((view pass).saw_done ≡ true) ⊎ KnowsStop (pass_view pass)
