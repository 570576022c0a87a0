-- Chunks of numbers whose sums are added to a counter.
use Rattle.std.specs.Prelude.{ℕ, ◌≡◌, ◌≤◌, ◌%◌, ◌^◌, List, [], ◌∷◌, sum, take, drop}
use Rattle.shared_uses.specs.declared.sums.Job.{Job}

-- the sum of the numbers at the places from `from` to below `to`, modulo 2^64
abbrev pub sum_between : List ℕ → ℕ → ℕ → ℕ
sum_between numbers from to = sum (drop from (take to numbers)) % 2 ^ 64

-- one job for each caller: the chunks stand one after another, from the place a to the place b
abbrev pub AreJobs : {C : Type 0} → (Job → C) → ℕ → ℕ → List Job → List C → Type 0
AreJobs f a b [] [] = a ≡ b
AreJobs f a b [] (c ∷ callers) = ⊥
AreJobs f a b (job ∷ jobs) [] = ⊥
AreJobs f a b (job ∷ jobs) (c ∷ callers) = (job.from ≡ a) × (a ≤ job.to) × (f job ≡ c) × AreJobs f job.to b jobs callers
