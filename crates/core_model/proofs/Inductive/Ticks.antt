-- What the proofs carry of the ticks: the stamp of each leaf that has started, and what each tick was drawn for.
use Rattle.std.specs.Prelude.{ℕ, ◌≡◌, ◌<◌, Option, None, Some}
use Rattle.core_model.proofs.Words.{LeafNode, Nodes, IsBySeries, Progress, Waiting, Ready, Taken, Done, Ran, Task, Started, Kept, Ended}

-- the stamp of a started leaf: its worker, its start, and its end once it has one
pub record Stamp : Type 0 where
  pub worker : ℕ
  pub start : ℕ
  pub end : Option ℕ

abbrev pub stamp : ℕ → ℕ → Option ℕ → Stamp
stamp w s e = record { worker = w; start = s; end = e }

-- the stamp in a worker's task
abbrev pub stamp_in_task : ℕ → Task → Option Stamp
stamp_in_task w (Started n s) = Some (stamp w s None)
stamp_in_task w (Kept n s) = Some (stamp w s None)
stamp_in_task w (Ended n s e) = Some (stamp w s (Some e))
stamp_in_task w _ = None

abbrev pub stamp_by : Progress → Option ℕ → (ℕ → Task) → Option Stamp
stamp_by Waiting holder task = None
stamp_by Ready holder task = None
stamp_by Taken None task = None
stamp_by Taken (Some w) task = stamp_in_task w (task w)
stamp_by Done holder task = None
stamp_by (Ran w s e) holder task = Some (stamp w s (Some e))

-- the stamp of the leaf at a node
abbrev pub stamps : (ℕ → Progress) → (ℕ → Task) → (ℕ → Option ℕ) → ℕ → Option Stamp
stamps node task holder n = stamp_by (node n) (holder n) task

-- what a tick was drawn for
pub data Drawn : Type 0 where
  StartOf : (node : ℕ) → Drawn
  EndOf : (node : ℕ) → Drawn

-- the leaf ran, and ended before the tick
abbrev pub RanBefore : Progress → ℕ → Type 0
RanBefore (Ran w s e) tick = e < tick
RanBefore _ tick = ⊥

abbrev pub EndsBefore : Option ℕ → ℕ → Type 0
EndsBefore None tick = ⊥
EndsBefore (Some e) tick = e < tick

abbrev pub StartsAt : Option Stamp → ℕ → Type 0
StartsAt None tick = ⊥
StartsAt (Some s) tick = s.start ≡ tick

abbrev pub EndsAt : Option Stamp → ℕ → Type 0
EndsAt None tick = ⊥
EndsAt (Some s) tick = s.end ≡ Some tick

-- the first node is a leaf, and is before the second one
abbrev pub ComesBefore : Nodes → ℕ → ℕ → Type 0
ComesBefore plan n m = (leaf : ℕ) × (plan.kind n ≡ Some (LeafNode leaf)) × IsBySeries plan n m

-- the ticks drawn so far are exactly the starts and the ends, each once
pub record InductiveTicks (plan : Nodes) (workers : ℕ) (node : ℕ → Progress) (tick : ℕ) (stamps : ℕ → Option Stamp) : Type 0 where
  pub draw : ℕ → Drawn
  pub start_drawn : (n w s : ℕ) (e : Option ℕ) → stamps n ≡ Some (stamp w s e) → (draw s ≡ StartOf n) × (s < tick)
  pub end_drawn : (n w s e : ℕ) → stamps n ≡ Some (stamp w s (Some e)) → (draw e ≡ EndOf n) × (e < tick) × (s < e)
  pub start_at : (t n : ℕ) → t < tick → draw t ≡ StartOf n → StartsAt (stamps n) t
  pub end_at : (t n : ℕ) → t < tick → draw t ≡ EndOf n → EndsAt (stamps n) t
  pub workers_below : (n w s : ℕ) (e : Option ℕ) → stamps n ≡ Some (stamp w s e) → w < workers
  pub in_order : (n m w s : ℕ) (e : Option ℕ) → ComesBefore plan n m → stamps m ≡ Some (stamp w s e) → RanBefore (node n) s
  pub one_at_once : (n m w s t : ℕ) (d e : Option ℕ) → stamps n ≡ Some (stamp w s d) → stamps m ≡ Some (stamp w t e) → s < t → EndsBefore d t
