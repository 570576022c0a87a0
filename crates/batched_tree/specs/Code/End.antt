-- The replies and the keys that the end makes of the outs.
use Rattle.std.specs.Prelude.{ℕ, List, [], ◌∷◌, ◌++◌, map, drop, slice_index_or, slice_set, ⊤}
use Rattle.seq_objects.specs.declared.reply.Reply.{Reply}
use Rattle.seq_objects.specs.declared.reply.Reply.TheVariants.{Empty}
use Rattle.key_sets.specs.Keys.{AllBelow}
use Rattle.batched_tree.specs.declared.piece.Served.{Served}

-- each call takes the next reply of its group's piece; `Empty` if none is left
abbrev pub merged_replies : List ℕ → List (List Reply) → List Reply
merged_replies [] pieces = []
merged_replies (group ∷ groups) pieces =
    slice_index_or (slice_index_or pieces group []) 0 Empty ∷ merged_replies groups (slice_set pieces group (drop 1 (slice_index_or pieces group [])))

-- the replies of each piece
abbrev pub replies_of : List Served → List (List Reply)
replies_of outs = map (λ served. served.replies.items) outs

-- the keys of all pieces, in piece order
abbrev pub joined_keys : List Served → List ℕ
joined_keys [] = []
joined_keys (served ∷ outs) = served.forest.keys ++ joined_keys outs

-- each piece's keys are above all keys of the set and of the pieces before it
abbrev pub CanJoin : List ℕ → List Served → Type 0
CanJoin set [] = ⊤
CanJoin set (served ∷ outs) = AllBelow set served.forest.keys × CanJoin (set ++ served.forest.keys) outs
