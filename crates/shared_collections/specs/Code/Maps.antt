-- Operations and replies of a map as `batched_map` has them.
use Rattle.std.specs.Prelude.{ℕ, ◌<◌, ◌^◌, List, [], ◌∷◌, map, ⊤}
use Rattle.seq_objects.specs.declared.reply.Reply.{Reply}
use Rattle.seq_objects.specs.declared.reply.Reply.TheVariants.{Number}
use Rattle.rank_nodes.specs.declared.entry.Entry.{Entry}
use Rattle.batched_map.specs.declared.call.MapOp.{MapOp}
use Rattle.batched_map.specs.declared.call.MapOp.TheVariants as op
use Rattle.batched_map.specs.declared.call.MapCall.{MapCall}
use Rattle.shared_collections.specs.declared.ranked.RankedOp.{RankedOp}
use Rattle.shared_collections.specs.declared.ranked.RankedOp.TheVariants.{Put, Remove, Get, Rank, Nth}
use Rattle.shared_collections.specs.declared.ranked.RankedReply.{RankedReply}
use Rattle.shared_collections.specs.declared.ranked.RankedReply.TheVariants.{Value, Count, Key}
use Rattle.shared_collections.specs.Code.Numbers.{AreSmall, IsSmall, number_in}

-- the operation of `batched_map`, and back
abbrev pub asked_of : RankedOp → MapOp
asked_of (Put key value) = op.Put key value
asked_of (Remove key) = op.Del key
asked_of (Get key) = op.Get key
asked_of (Rank key) = op.Rank key
asked_of (Nth index) = op.Nth index

abbrev pub op_of : MapOp → RankedOp
op_of (op.Put key value) = Put key value
op_of (op.Del key) = Remove key
op_of (op.Get key) = Get key
op_of (op.Rank key) = Rank key
op_of (op.Nth index) = Nth index

-- the number in the reply to a rank
abbrev pub count_in : Reply → ℕ
count_in (Number number) = number
count_in _ = 0

abbrev pub own_reply : MapOp → Reply → RankedReply
own_reply (op.Put key value) reply = Value (number_in reply)
own_reply (op.Del key) reply = Value (number_in reply)
own_reply (op.Get key) reply = Value (number_in reply)
own_reply (op.Rank key) reply = Count (count_in reply)
own_reply (op.Nth index) reply = Key (number_in reply)

-- the replies to calls, each by its call's operation
abbrev pub own_replies : List MapCall → List Reply → List RankedReply
own_replies (call ∷ calls) (reply ∷ replies) = own_reply call.what reply ∷ own_replies calls replies
own_replies _ _ = []

-- keys and values below 2^32: in the entry of a put, in all entries, and in the reply to an operation
abbrev pub IsSmallOp : MapOp → Type 0
IsSmallOp (op.Put key value) = (key < 2 ^ 32) × (value < 2 ^ 32)
IsSmallOp _ = ⊤

abbrev pub AreSmallEntries : List Entry → Type 0
AreSmallEntries entries = AreSmall (map (λ e. e.key) entries) × AreSmall (map (λ e. e.val) entries)

abbrev pub IsSmallReply : MapOp → Reply → Type 0
IsSmallReply (op.Rank key) reply = ⊤
IsSmallReply _ reply = IsSmall (number_in reply)

abbrev pub AreSmallReplies : List MapCall → List Reply → Type 0
AreSmallReplies (call ∷ calls) (reply ∷ replies) = IsSmallReply call.what reply × AreSmallReplies calls replies
AreSmallReplies _ _ = ⊤
