-- What only the code and its proofs cite: the lines of calls by their replies.
use Rattle.std.specs.Prelude.{ℕ, ◌+◌, List, [], ◌∷◌, ◌++◌, Bool}
use Rattle.bulk_calls.specs.Views.{CallView}
use Rattle.bulkrun.specs.Text.{call_line}

-- the lines of calls that got these replies, from this place on
abbrev pub call_lines : ℕ → ℕ → List CallView → List (List Bool) → List ℕ
call_lines batch place [] replies = []
call_lines batch place (call ∷ calls) [] = []
call_lines batch place (call ∷ calls) (answers ∷ replies) =
    call_line batch place call answers ++ call_lines batch (place + 1) calls replies
