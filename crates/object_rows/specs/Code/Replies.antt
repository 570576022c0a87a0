-- Replies at the places of the calls of one number.
use Rattle.std.specs.Prelude.{ℕ, ◌==◌, if◌then◌else◌, List, [], ◌∷◌, drop, slice_index_or}
use Rattle.seq_objects.specs.declared.call.Call.{Call}
use Rattle.seq_objects.specs.declared.reply.Reply.{Reply}
use Rattle.seq_objects.specs.Objects.{number_of}

-- the replies, of which those to the number's calls are replaced by `own`, as far as these reach
abbrev pub with_own : ℕ → List Call → List Reply → List Reply → List Reply
with_own number [] replies own = replies
with_own number (call ∷ calls) [] own = []
with_own number (call ∷ calls) (reply ∷ replies) own =
    if number_of call.op == number then slice_index_or own 0 reply ∷ with_own number calls replies (drop 1 own)
    else reply ∷ with_own number calls replies own
