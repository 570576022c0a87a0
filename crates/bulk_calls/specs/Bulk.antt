-- A set as one thread would have it, whose calls carry many keys: the keys of a call are served one after another.
use Rattle.std.specs.Prelude.{ℕ, Bool, true, false, List, [], ◌∷◌, map}
use Rattle.seq_objects.specs.declared.op.Op.{Op}
use Rattle.seq_objects.specs.declared.op.Op.TheVariants.{TreeInsert, TreeRemove, TreeFind}
use Rattle.seq_objects.specs.declared.reply.Reply.{Reply}
use Rattle.seq_objects.specs.declared.reply.Reply.TheVariants as reply
use Rattle.seq_objects.specs.Objects.{after, reply_to}
use Rattle.seq_objects.specs.Serial.{of_set}
use Rattle.bulk_calls.specs.declared.op.BulkKind.{BulkKind}
use Rattle.bulk_calls.specs.declared.op.BulkKind.TheVariants.{Insert, Remove, Find}
use Rattle.bulk_calls.specs.Views.{BulkView, CallView}

-- the operation on the tree for one key
abbrev pub asked : BulkKind → ℕ → Op
asked Insert key = TreeInsert 0 key
asked Remove key = TreeRemove 0 key
asked Find key = TreeFind 0 key

-- whether a reply is a yes
abbrev pub is_yes : Reply → Bool
is_yes reply.Yes = true
is_yes _ = false

-- the set after one key
abbrev pub after_key : BulkKind → List ℕ → ℕ → List ℕ
after_key what set key = (after (of_set set) (asked what key)).set

-- whether the reply to one key is yes
abbrev pub answer : BulkKind → List ℕ → ℕ → Bool
answer what set key = is_yes (reply_to (of_set set) (asked what key))

-- the set after keys, one after another
abbrev pub after_keys : BulkKind → List ℕ → List ℕ → List ℕ
after_keys what set [] = set
after_keys what set (key ∷ keys) = after_keys what (after_key what set key) keys

-- the replies to keys, one after another
abbrev pub answers : BulkKind → List ℕ → List ℕ → List Bool
answers what set [] = []
answers what set (key ∷ keys) = answer what set key ∷ answers what (after_key what set key) keys

-- the set after a call, and the reply to each of its keys
abbrev pub bulk_serve : List ℕ → BulkView → List ℕ × List Bool
bulk_serve set call = (after_keys call.kind set call.keys, answers call.kind set call.keys)

-- the set after calls, one after another
abbrev pub bulk_after : List ℕ → List BulkView → List ℕ
bulk_after set [] = set
bulk_after set (call ∷ calls) = bulk_after (bulk_serve set call).0 calls

-- the replies to calls, one after another
abbrev pub bulk_replies : List ℕ → List BulkView → List (List Bool)
bulk_replies set [] = []
bulk_replies set (call ∷ calls) = (bulk_serve set call).1 ∷ bulk_replies (bulk_serve set call).0 calls

-- what calls ask for
abbrev pub operations : List CallView → List BulkView
operations calls = map (λ call. call.what) calls
