-- The replies of a piece, which sees only the keys of its range.
use Rattle.std.specs.Prelude.{ℕ, List, [], ◌∷◌}
use Rattle.std.specs.declared.option.Option.{Option}
use Rattle.seq_objects.specs.declared.op.Op.{Op}
use Rattle.seq_objects.specs.declared.op.Op.TheVariants.{TreeNext}
use Rattle.seq_objects.specs.declared.call.Call.{Call}
use Rattle.seq_objects.specs.declared.reply.Reply.{Reply}
use Rattle.seq_objects.specs.declared.reply.Reply.TheVariants as reply
use Rattle.seq_objects.specs.Objects.{Objects, after, reply_to, number_or_empty}

-- the reply, where the least key beyond the range, if there is one, replaces `Empty`
abbrev pub or_beyond : Reply → Option ℕ → Reply
or_beyond (reply.Number number) beyond = reply.Number number
or_beyond reply.Unit beyond = reply.Unit
or_beyond reply.Empty beyond = number_or_empty beyond
or_beyond reply.Yes beyond = reply.Yes
or_beyond reply.No beyond = reply.No

-- the least key beyond the range matters only to `TreeNext`
abbrev pub reply_within : Option ℕ → Op → Reply → Reply
reply_within beyond (TreeNext number key) reply = or_beyond reply beyond
reply_within beyond _ reply = reply

-- the replies to calls served one after another, where `beyond` is the least key beyond the range
abbrev pub replies_within : Option ℕ → Objects → List Call → List Reply
replies_within beyond objects [] = []
replies_within beyond objects (call ∷ calls) =
    reply_within beyond call.op (reply_to objects call.op) ∷ replies_within beyond (after objects call.op) calls
