-- Which hints belong to which deques.
use Rattle.std.specs.Prelude.{◌≡◌, ◌<◌, ◌≤◌}
use Rattle.limits.specs.declared.TheConstants.{MOST_WORKERS}
use Rattle.two_deques.specs.declared.decks.Decks.{Decks}
use Rattle.two_deques.specs.Hands.{workers_of, IsHandOf}
use Rattle.locked_run.specs.declared.hints.WorkHints.{WorkHints}

-- The hand belongs to these deques, the hints have their number of workers, which is no more than a run may have, and the last victim is
-- one of these workers.
pub record AreHintsOf (decks : Decks) (f : WorkHints) : Type 0 where
  pub hand : IsHandOf decks f.hand
  pub workers : f.workers ≡ workers_of decks
  pub few : f.workers ≤ MOST_WORKERS
  pub victim_in : f.victim < f.workers
