-- Items dealt to groups, and what a merge of the groups' replies requires.
use Rattle.std.specs.Prelude.{ℕ, ◌<◌, ◌==◌, if◌then◌else◌, List, [], ◌∷◌, length, map, drop, slice_index_or, slice_set, ⊤}
use Rattle.std.specs.List.{range_with_len}
use Rattle.std.specs.declared.vec.Vec.{Vec}
use Rattle.std.specs.declared.alloc.Global.{Global}
use Rattle.std.specs.declared.collections.VecDeque.{VecDeque}

-- the items of each vector
abbrev pub lists : {X : Type 0} → List (Vec X Global) → List (List X)
lists vectors = map (λ vector. vector.items) vectors

-- the items of each queue
abbrev pub queued : {X : Type 0} → List (VecDeque X Global) → List (List X)
queued queues = map (λ queue. queue.items) queues

-- the items of one group, in their order; `groups` has the group of each item
abbrev pub of_group : {X : Type 0} → ℕ → List ℕ → List X → List X
of_group group [] items = []
of_group group (g ∷ groups) [] = []
of_group group (g ∷ groups) (item ∷ items) =
    if g == group then item ∷ of_group group groups items else of_group group groups items

-- the items of each of the groups 0 to `count` - 1
abbrev pub dealt : {X : Type 0} → ℕ → List ℕ → List X → List (List X)
dealt count groups items = map (λ group. of_group group groups items) (range_with_len 0 count)

-- each item in turn finds a reply left in its group; `groups` has the group of each item
abbrev pub HaveReplies : {R : Type 0} → List ℕ → List (List R) → Type 0
HaveReplies [] replies = ⊤
HaveReplies (group ∷ groups) replies =
    (group < length replies)
    × (0 < length (slice_index_or replies group []))
    × HaveReplies groups (slice_set replies group (drop 1 (slice_index_or replies group [])))
