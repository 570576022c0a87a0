-- What a look does to the state behind the lock, by its answer.
use Rattle.std.specs.Prelude.{ℕ, ◌≡◌, ◌<◌, ◌≤◌, ◌-◌, ◌⊎◌, true, false}
use Rattle.std.specs.Prelude.{List, length, slice_index, Option, Some, None}
use Rattle.batcher_core.specs.Cores.{job_in, state_in, due_in, is_over_in, IsTurnResult}
use Rattle.batcher_core.specs.Doings.{doing_in}
use Rattle.batcher_core.specs.declared.turn.Turn.TheVariants as turns
use Rattle.locked_run.specs.declared.turn.Look.{Look}
use Rattle.locked_run.specs.declared.turn.Look.TheVariants.{Moved, Due, Idle, Ended}
use Rattle.locked_run.specs.Runs.{RunView}

-- the newest node of a list that is longer than before, or `None` for one that is not
abbrev pub IsMade : ℕ → List ℕ → Option ℕ → Type 0
IsMade before list None = length list ≤ before
IsMade before list (Some node) = (before < length list) × (node ≡ slice_index list (length list - 1))

-- the run was neither over nor failed before the look, and memory did not run out in the look
pub record WentOn (old new : RunView) : Type 0 where
  pub going : old.failed ≡ false
  pub unfinished : is_over_in old.core ≡ false
  pub whole : new.failed ≡ false

-- What each answer of a look by worker `w` says. `Moved`: the event of the worker's turn has happened, with what it
-- left the worker doing and the newest node of its list, if the list grew. `Due`: this many steps of work are due of
-- the worker, and the state is unchanged. `Idle`: the worker has no event, and the state is unchanged. `Ended`: after
-- the look the run is over, or memory has run out.
abbrev pub HasLooked : ℕ → RunView → RunView → Look → Type 0
HasLooked w old new (Moved doing made) =
    WentOn old new × IsTurnResult turns.Moved (job_in old.core) (state_in old.core) w (state_in new.core)
    × (doing ≡ doing_in new.core w)
    × IsMade (length ((state_in old.core).ready w)) ((state_in new.core).ready w) made
HasLooked w old new (Due steps) =
    WentOn old new × (due_in old.core w ≡ Some steps) × (state_in new.core ≡ state_in old.core)
HasLooked w old new Idle =
    WentOn old new × IsTurnResult turns.Idle (job_in old.core) (state_in old.core) w (state_in new.core)
HasLooked w old new Ended = (is_over_in new.core ≡ true) ⊎ (new.failed ≡ true)
