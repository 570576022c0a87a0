-- What only the code and its proofs cite: the lines of calls by their replies.
use Rattle.std.specs.Prelude.{ℕ, ◌+◌, List, [], ◌∷◌, ◌++◌}
use Rattle.seq_objects.specs.declared.reply.Reply.{Reply}
use Rattle.batched_map.specs.declared.call.MapCall.{MapCall}
use Rattle.maprun.specs.Text.{call_line}

-- the lines of calls that got these replies, from this place on
abbrev pub call_lines : ℕ → ℕ → List MapCall → List Reply → List ℕ
call_lines batch place [] replies = []
call_lines batch place (call ∷ calls) [] = []
call_lines batch place (call ∷ calls) (reply ∷ replies) =
    call_line batch place call reply ++ call_lines batch (place + 1) calls replies
