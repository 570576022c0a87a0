use Rattle.std.proofs.Common.{ltb, ltb-true, ltb-false, arith, rules, ◌≡◌, ℕ, true, false}
use Rattle.std.specs.List.Sorted.{IsPartitionPoint}
use Rattle.std.proofs.lemmas.List.Sorted.{IsPartitionPoint-from_clause, IsPartitionedBy-ltb}
use Rattle.job_names.proofs.places.count_below.Goals as goal
use Rattle.job_names.proofs.places.count_below.Goals.{After-partition_point}

point : (c : After-partition_point) → IsPartitionPoint (λ y. ltb y c.args.end ≡ true) (λ y. ltb y c.args.end ≡ false) c.args.places.now c.partition_point.result
point c =
    IsPartitionPoint-from_clause (λ y. ltb y c.args.end) _ _ c.partition_point.ensures.partitioned (IsPartitionedBy-ltb (λ (place : ℕ). place) _ c.args.end c.requires) (λ a r q k. search rules)

pub returns-clause-below : goal.returns-clause-below
returns-clause-below c = λ k h. ltb-true _ _ ((point c).0 k 0 (omega arith) h)

pub returns-clause-above : goal.returns-clause-above
returns-clause-above c = λ k h i. ltb-false _ _ ((point c).1 k 0 h i)
