-- Runs in which some workers have stopped for good, after any event: what the live workers reach without them.
use Rattle.core_model.specs.Runs.{IsStep, IsTurn}
use Rattle.core_model.specs.State.{CoreJob, CoreState}
use Rattle.core_model.specs.Tasks.{is_done}
use Rattle.core_model.specs.declared.event.Event.{Event}
use Rattle.std.specs.Prelude.{Bool, false, true, ℕ, ◌%◌, ◌+◌, ◌≡◌}

-- no live worker can make an event
abbrev pub NoLiveEvent : CoreJob → (ℕ → Bool) → CoreState → Type 0
NoLiveEvent job live s = (w : ℕ) → live w ≡ true → (event : Event) (next : CoreState) → IsStep job s w event next → ⊥

-- Turns go round robin among the live workers, from `robin` on, and pass over stopped ones. A drive ends in a state
-- whose root is done, or in which no live worker has an event.
pub data LiveDrive (job : CoreJob) (live : ℕ → Bool) : CoreState → ℕ → CoreState → Type 0 where
  over : {s : CoreState} {robin : ℕ} → is_done (s.state.node 0) ≡ true → LiveDrive job live s robin s
  stuck : {s : CoreState} {robin : ℕ} → is_done (s.state.node 0) ≡ false → NoLiveEvent job live s → LiveDrive job live s robin s
  by_live : {s next last : CoreState} {robin : ℕ} → is_done (s.state.node 0) ≡ false → live robin ≡ true
      → IsTurn job s robin next → LiveDrive job live next ((robin + 1) % job.workers) last → LiveDrive job live s robin last
  past_stopped : {s last : CoreState} {robin : ℕ} → is_done (s.state.node 0) ≡ false → live robin ≡ false
      → LiveDrive job live s ((robin + 1) % job.workers) last → LiveDrive job live s robin last
