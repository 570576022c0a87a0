-- The cost of changing rooms, over a list of batches: how many items are copied.
use Rattle.std.specs.Prelude.{ℕ, zero, suc, ◌+◌, ◌-◌, ◌==◌, if◌then◌else◌, List, [], ◌∷◌, slice_index, replicate, ⊤}
use Rattle.batched_stack.specs.Stripes.{stripe_length}
use Rattle.batched_stack.specs.Rooms.{AreNext}

-- a batch's numbers of pushes and pops, and the rooms after it
pub record BatchCounts : Type 0 where
  pub pushes : ℕ
  pub pops : ℕ
  pub rooms : List ℕ

-- the stack's length after a batch on n items; pops beyond the last item take none
abbrev pub length_after : ℕ → BatchCounts → ℕ
length_after n batch = n + batch.pushes - batch.pops

-- from a stack of n items with these rooms, each batch leaves the rooms that the rule gives
abbrev pub FollowRule : ℕ → List ℕ → List BatchCounts → Type 0
FollowRule n rooms [] = ⊤
FollowRule n rooms (batch ∷ batches) =
    AreNext rooms (length_after n batch) batch.rooms
    × FollowRule (length_after n batch) batch.rooms batches

-- the cost of the first j stripes: one whose room changes is charged all the items that it has where the stack has n
abbrev pub copied_by : ℕ → List ℕ → ℕ → List ℕ → ℕ
copied_by zero rooms n new = 0
copied_by (suc j) rooms n new =
    (if slice_index new j == slice_index rooms j then 0 else stripe_length j n) + copied_by j rooms n new

-- the cost of all 16 stripes over all batches, where a batch's changes are charged by the stack's length after it
abbrev pub copied_items : ℕ → List ℕ → List BatchCounts → ℕ
copied_items n rooms [] = 0
copied_items n rooms (batch ∷ batches) =
    copied_by 16 rooms (length_after n batch) batch.rooms + copied_items (length_after n batch) batch.rooms batches

-- the number of calls of all batches
abbrev pub call_count : List BatchCounts → ℕ
call_count [] = 0
call_count (batch ∷ batches) = batch.pushes + batch.pops + call_count batches

-- the rooms of an empty stack
abbrev pub first_rooms : List ℕ
first_rooms = replicate 16 16
