-- A map as one thread would have it: the list of its entries, whose keys strictly ascend.
use Rattle.std.specs.Prelude.{ℕ, Bool, true, false, List, map, Option, Some, None}
use Rattle.std.specs.List.{filter_map}
use Rattle.seq_objects.specs.Objects.{number_or_empty}
use Rattle.seq_objects.specs.declared.reply.Reply.{Reply}
use Rattle.seq_objects.specs.declared.reply.Reply.TheVariants.{Number}
use Rattle.keyed_pieces.specs.Keyed.{after_each, replies_to_each}
use Rattle.rank_nodes.specs.declared.entry.Entry.{Entry}
use Rattle.rank_nodes.specs.Maps.{value_at, with_entry, without_entry, rank_of, key_at}
use Rattle.batched_map.specs.declared.call.MapOp.{MapOp}
use Rattle.batched_map.specs.declared.call.MapOp.TheVariants.{Put, Del, Get, Rank, Nth}
use Rattle.batched_map.specs.declared.call.MapCall.{MapCall}

-- An operation: the map afterwards, and the reply. `put` and `del` reply the old value of the key, `get` its value,
-- `rank` how many keys are less, and `nth` the key that has exactly `index` keys below it.
abbrev pub map_serve : List Entry → MapOp → List Entry × Reply
map_serve entries (Put key val) = (with_entry key val entries, number_or_empty (value_at key entries))
map_serve entries (Del key) = (without_entry key entries, number_or_empty (value_at key entries))
map_serve entries (Get key) = (entries, number_or_empty (value_at key entries))
map_serve entries (Rank key) = (entries, Number (rank_of key entries))
map_serve entries (Nth index) = (entries, number_or_empty (key_at index entries))

-- the map after an operation, and the reply to it
abbrev pub after : List Entry → MapOp → List Entry
after entries op = (map_serve entries op).0

abbrev pub reply_to : List Entry → MapOp → Reply
reply_to entries op = (map_serve entries op).1

-- the map after operations, one after another, and the replies to them
abbrev pub map_after : List Entry → List MapOp → List Entry
map_after entries operations = after_each after entries operations

abbrev pub map_replies : List Entry → List MapOp → List Reply
map_replies entries operations = replies_to_each after reply_to entries operations

-- whether an operation leaves the map as it is
abbrev pub is_query : MapOp → Bool
is_query (Put key val) = false
is_query (Del key) = false
is_query (Get key) = true
is_query (Rank key) = true
is_query (Nth index) = true

-- the key of an operation; only the question for the key at an index has none
abbrev pub key_in : MapOp → Option ℕ
key_in (Put key val) = Some key
key_in (Del key) = Some key
key_in (Get key) = Some key
key_in (Rank key) = Some key
key_in (Nth index) = None

-- the key of an operation, 0 where it has none
abbrev pub op_key : MapOp → ℕ
op_key (Put key val) = key
op_key (Del key) = key
op_key (Get key) = key
op_key (Rank key) = key
op_key (Nth index) = 0

-- the keys of operations, in their order
abbrev pub keys_in : List MapOp → List ℕ
keys_in operations = filter_map key_in operations

-- the operations that calls ask for
abbrev pub operations : List MapCall → List MapOp
operations calls = map (λ call. call.what) calls
