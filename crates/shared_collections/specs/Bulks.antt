-- The serial object of a set whose calls carry many keys. Its state is the list of its keys, which ascend.
use Rattle.std.specs.Prelude.{ℕ, Bool, List, []}
use Rattle.bulk_calls.specs.declared.op.BulkKind.{BulkKind}
use Rattle.bulk_calls.specs.Views.{BulkView}
use Rattle.bulk_calls.specs.Bulk.{after_keys, answers}
use Rattle.shared_calls.specs.Serial.{SerialObject}

-- an operation: what is done with these keys
abbrev pub asked : BulkKind → List ℕ → BulkView
asked kind keys = record { kind = kind; keys = keys }

-- the keys of the set after an operation, whose keys are served one after another
abbrev pub keys_after : List ℕ → BulkView → List ℕ
keys_after set op = after_keys op.kind set op.keys

-- The reply: for each key of the operation whether it was inserted, was removed, or is there. A key that the operation has
-- twice finds what its first one left.
abbrev pub bulk_reply : List ℕ → BulkView → List Bool
bulk_reply set op = answers op.kind set op.keys

-- the set, which is empty at first
abbrev pub bulk_set : SerialObject BulkView (List Bool)
bulk_set = record { State = List ℕ; opening = []; after = keys_after; reply = bulk_reply }
