-- The invariant of the leaves' ticks.
use Rattle.core_model.specs.Operations.{IsLeaf}
use Rattle.core_model.specs.Words.{Progress, Ran, Task, Ended, Half, Handed, Idle, Kept, Run, Started, Whole, IsBySeries, Nodes}
use Rattle.std.specs.Prelude.{ℕ, ◌<◌, ◌≡◌, ◌⊎◌}

-- the task is the leaf at node `n`, started, kept or ended, with this start
abbrev pub IsStartedAs : Task → ℕ → ℕ → Type 0
IsStartedAs Idle n start = ⊥
IsStartedAs (Run m) n start = ⊥
IsStartedAs (Half m) n start = ⊥
IsStartedAs (Started m s) n start = (m ≡ n) × (s ≡ start)
IsStartedAs (Kept m s) n start = (m ≡ n) × (s ≡ start)
IsStartedAs (Ended m s e) n start = (m ≡ n) × (s ≡ start)
IsStartedAs (Whole m) n start = ⊥
IsStartedAs (Handed m) n start = ⊥

-- a tick's origin: the start or end of a done leaf, or of the leaf in a worker's task
pub data Draw : Type 0 where
  start_of : (node : ℕ) → Draw
  end_of : (node : ℕ) → Draw
  start_by : (worker : ℕ) → Draw
  end_by : (worker : ℕ) → Draw

-- the tick has this origin
abbrev pub IsDrawn : (ℕ → Progress) → (ℕ → Task) → Draw → ℕ → Type 0
IsDrawn node task (start_of n) tick = (w : ℕ) × (e : ℕ) × (node n ≡ Ran w tick e)
IsDrawn node task (end_of n) tick = (w : ℕ) × (s : ℕ) × (node n ≡ Ran w s tick)
IsDrawn node task (start_by w) tick = (n : ℕ) × IsStartedAs (task w) n tick
IsDrawn node task (end_by w) tick = (n : ℕ) × (s : ℕ) × (task w ≡ Ended n s tick)

-- the leaf at node `n` has worker `w` and start `s`, as a done leaf or in `w`'s task
abbrev pub HasStart : (ℕ → Progress) → (ℕ → Task) → ℕ → ℕ → ℕ → Type 0
HasStart node task n w s = ((e : ℕ) × (node n ≡ Ran w s e)) ⊎ IsStartedAs (task w) n s

-- the leaf also has the end `e`
abbrev pub HasEnd : (ℕ → Progress) → (ℕ → Task) → ℕ → ℕ → ℕ → ℕ → Type 0
HasEnd node task n w s e = (node n ≡ Ran w s e) ⊎ (task w ≡ Ended n s e)

-- The ticks of the leaves.
pub record TicksInvariant (plan : Nodes) (workers : ℕ) (node : ℕ → Progress) (tick : ℕ) (task : ℕ → Task) : Type 0 where
  -- The starts and ends in tasks and of done leaves are distinct, and they are exactly the numbers below the tick.
  pub distinct : (a b : Draw) (t : ℕ) → IsDrawn node task a t → IsDrawn node task b t → a ≡ b
  pub only : (a : Draw) (t : ℕ) → IsDrawn node task a t → t < tick
  pub each : (t : ℕ) → t < tick → (a : Draw) × IsDrawn node task a t
  -- each leaf starts before it ends
  pub starts_first : (n w s e : ℕ) → HasEnd node task n w s e → s < e
  -- the worker of each done leaf is a worker of the job
  pub among : (n w s e : ℕ) → node n ≡ Ran w s e → w < workers
  -- series-parallel order: a leaf that precedes a started leaf is done, and its end is below that start
  pub in_order : (n m w s : ℕ) → IsLeaf (plan.kind n) → IsLeaf (plan.kind m) → IsBySeries plan n m → HasStart node task m w s
      → (v : ℕ) × (a : ℕ) × (e : ℕ) × (node n ≡ Ran v a e) × (e < s)
  -- a worker runs one leaf at a time: of its two leaves, the earlier one ends before the later one starts
  pub alone : (n m w s t : ℕ) → HasStart node task n w s → HasStart node task m w t → s < t
      → (e : ℕ) × HasEnd node task n w s e × (e < t)
