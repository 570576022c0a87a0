-- The ranges of a map, and what a range replies.
use Rattle.std.specs.Prelude.{ℕ, ◌+◌, ◌-◌, List, [], ◌∷◌, length}
use Rattle.key_sets.specs.Groups.{group_of}
use Rattle.rank_nodes.specs.declared.entry.Entry.{Entry}
use Rattle.rank_nodes.specs.Maps.{value_at, rank_of, key_at}
use Rattle.seq_objects.specs.Objects.{number_or_empty}
use Rattle.seq_objects.specs.declared.reply.Reply.{Reply}
use Rattle.seq_objects.specs.declared.reply.Reply.TheVariants.{Number}
use Rattle.batched_map.specs.declared.call.MapOp.{MapOp}
use Rattle.batched_map.specs.declared.call.MapOp.TheVariants.{Put, Del, Get, Rank, Nth}
use Rattle.batched_map.specs.Maps.{after}
use Rattle.keyed_pieces.specs.Keyed.{replies_to_each}

-- how many keys are before each range, where `before` are before the first
abbrev pub sizes_before : ℕ → List (List Entry) → List ℕ
sizes_before before [] = []
sizes_before before (range ∷ ranges) = before ∷ sizes_before (before + length range) ranges

-- The number of the range of an operation, where the ranges but the first begin with these keys, and at these indices:
-- an index that is past all keys falls in the last range.
abbrev pub range_of : List ℕ → List ℕ → MapOp → ℕ
range_of starts indices (Put key val) = group_of key starts
range_of starts indices (Del key) = group_of key starts
range_of starts indices (Get key) = group_of key starts
range_of starts indices (Rank key) = group_of key starts
range_of starts indices (Nth index) = group_of index indices

-- what an operation replies in a range that has `before` keys before it
abbrev pub reply_in : ℕ → List Entry → MapOp → Reply
reply_in before entries (Put key val) = number_or_empty (value_at key entries)
reply_in before entries (Del key) = number_or_empty (value_at key entries)
reply_in before entries (Get key) = number_or_empty (value_at key entries)
reply_in before entries (Rank key) = Number (before + rank_of key entries)
reply_in before entries (Nth index) = number_or_empty (key_at (index - before) entries)

-- what operations reply in a range, one after another
abbrev pub replies_in : ℕ → List Entry → List MapOp → List Reply
replies_in before entries operations = replies_to_each after (reply_in before) entries operations

-- what the operations of each range reply
abbrev pub replies_in_each : List ℕ → List (List Entry) → List (List MapOp) → List (List Reply)
replies_in_each (before ∷ befores) (range ∷ ranges) (operations ∷ others) =
    replies_in before range operations ∷ replies_in_each befores ranges others
replies_in_each befores ranges operations = []
