-- What the proofs carry of the lists of ready nodes: the worker in whose list each stands.
use Rattle.std.specs.Prelude.{ℕ, ◌≡◌, ◌≢◌, ◌<◌, ◌==◌, if◌then◌else◌, Option, None, Some, List}
use Rattle.core_model.proofs.Words.{Progress, Waiting, Ready, Taken, Done, Ran}
use Rattle.core_model.specs.Lists.{times}

-- how often a node with this progress, whose home is this worker's list, is to stand in the list of w
abbrev pub stands_in : Progress → Option ℕ → ℕ → ℕ
stands_in Waiting home w = 0
stands_in Ready None w = 0
stands_in Ready (Some v) w = if v == w then 1 else 0
stands_in Taken home w = 0
stands_in Done home w = 0
stands_in (Ran worker start end) home w = 0

-- each ready node has one of the workers as its home, where it stands once, and it stands nowhere else
pub record InductiveLists (workers : ℕ) (node : ℕ → Progress) (ready : ℕ → List ℕ) : Type 0 where
  pub home : ℕ → Option ℕ
  pub homes : (n : ℕ) → node n ≡ Ready → home n ≢ None
  pub among : (n w : ℕ) → home n ≡ Some w → w < workers
  pub stands : (w n : ℕ) → times n (ready w) ≡ stands_in (node n) (home n) w
