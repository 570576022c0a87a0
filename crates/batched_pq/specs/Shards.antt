-- Shards, each with a front and a rest, and the bag that they form together.
use Rattle.std.specs.Prelude.{ℕ, ◌≤◌, List, [], ◌∷◌, ◌++◌}
use Rattle.std.specs.List.{AllByRecursion}
use Rattle.batched_pq.specs.Bags.{in_order}

-- what contracts see of a shard: the items that can be taken at once, and the others
pub record ShardView : Type 0 where
  pub front : List ℕ
  pub rest : List ℕ

-- the items of a shard, the front first
abbrev pub all_of : ShardView → List ℕ
all_of shard = shard.front ++ shard.rest

-- the items of all shards, in shard order
abbrev pub items_of : List ShardView → List ℕ
items_of [] = []
items_of (shard ∷ shards) = all_of shard ++ items_of shards

-- the bag of all items of the shards
abbrev pub bag_of : List ShardView → List ℕ
bag_of shards = in_order (items_of shards)

-- no number of the first list exceeds a number of the second
abbrev pub NoneExceeds : List ℕ → List ℕ → Type 0
NoneExceeds xs ys = AllByRecursion (λ x. AllByRecursion (λ y. x ≤ y) ys) xs
