-- The serial object of a map with rank and select. Its state is the list of its entries, whose keys ascend.
use Rattle.std.specs.Prelude.{List, []}
use Rattle.rank_nodes.specs.declared.entry.Entry.{Entry}
use Rattle.rank_nodes.specs.Maps.{value_at, with_entry, without_entry, rank_of, key_at}
use Rattle.shared_calls.specs.Serial.{SerialObject}
use Rattle.shared_collections.specs.declared.ranked.RankedOp.{RankedOp}
use Rattle.shared_collections.specs.declared.ranked.RankedOp.TheVariants.{Put, Remove, Get, Rank, Nth}
use Rattle.shared_collections.specs.declared.ranked.RankedReply.{RankedReply}
use Rattle.shared_collections.specs.declared.ranked.RankedReply.TheVariants.{Value, Count, Key}

-- the entries after an operation: a put sets the value of its key, and a remove takes its key out
abbrev pub entries_after : List Entry → RankedOp → List Entry
entries_after entries (Put key value) = with_entry key value entries
entries_after entries (Remove key) = without_entry key entries
entries_after entries (Get key) = entries
entries_after entries (Rank key) = entries
entries_after entries (Nth index) = entries

-- The reply to an operation. A put and a remove reply the value that the key had before, if it was there, and a get its
-- value. A rank replies how many keys are less, and an nth the key that has exactly `index` keys below it, if there is one.
abbrev pub map_reply : List Entry → RankedOp → RankedReply
map_reply entries (Put key value) = Value (value_at key entries)
map_reply entries (Remove key) = Value (value_at key entries)
map_reply entries (Get key) = Value (value_at key entries)
map_reply entries (Rank key) = Count (rank_of key entries)
map_reply entries (Nth index) = Key (key_at index entries)

-- the map, which is empty at first
abbrev pub ranked_map : SerialObject RankedOp RankedReply
ranked_map = record { State = List Entry; opening = []; after = entries_after; reply = map_reply }
