-- The serial object of an ordered set.
use Rattle.std.specs.Prelude.{ℕ, List, [], not}
use Rattle.shared_calls.specs.Serial.{SerialObject}
use Rattle.key_sets.specs.Keys.{has, with_key, without_key, least_above}
use Rattle.shared_structures.specs.declared.set.SetOp.{SetOp}
use Rattle.shared_structures.specs.declared.set.SetOp.TheVariants.{Insert, Remove, Find, NextAbove}
use Rattle.shared_structures.specs.declared.set.SetReply.{SetReply}
use Rattle.shared_structures.specs.declared.set.SetReply.TheVariants.{Answer, Key}

-- the keys after an operation, ascending
abbrev pub set_after : List ℕ → SetOp → List ℕ
set_after keys (Insert key) = with_key key keys
set_after keys (Remove key) = without_key key keys
set_after keys (Find key) = keys
set_after keys (NextAbove key) = keys

-- the reply to it: whether the key is new, whether it was there, whether it is there, and the least key above
abbrev pub set_reply : List ℕ → SetOp → SetReply
set_reply keys (Insert key) = Answer (not (has key keys))
set_reply keys (Remove key) = Answer (has key keys)
set_reply keys (Find key) = Answer (has key keys)
set_reply keys (NextAbove key) = Key (least_above key keys)

-- a set, which is empty at first
abbrev pub set : SerialObject SetOp SetReply
set = record { State = List ℕ; opening = []; after = set_after; reply = set_reply }
