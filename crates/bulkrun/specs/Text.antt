-- What the program prints of a script: a line for each call, as one thread would serve them.
use Rattle.std.specs.Prelude.{ℕ, ◌+◌, List, [], ◌∷◌, ◌++◌, Bool, true, false, codes}
use Rattle.std.specs.Fmt.{decimal}
use Rattle.batch_script.specs.Texts.{line_front, script_text}
use Rattle.bulk_calls.specs.declared.op.BulkKind.{BulkKind}
use Rattle.bulk_calls.specs.declared.op.BulkKind.TheVariants.{Insert, Remove, Find}
use Rattle.bulk_calls.specs.Views.{BulkView, CallView}
use Rattle.bulk_calls.specs.Bulk.{bulk_serve, bulk_after, operations}
use Rattle.bulk_calls.specs.Batches.{in_batch_order}
use Rattle.bulkrun.specs.Calls.{bulk_call}

-- how a kind of call is written
abbrev pub kind_words : BulkKind → List ℕ
kind_words Insert = codes "insert"
kind_words Remove = codes "remove"
kind_words Find = codes "find"

-- keys, each behind a space
abbrev pub key_words : List ℕ → List ℕ
key_words [] = []
key_words (key ∷ keys) = codes " " ++ decimal key ++ key_words keys

-- how an answer is written
abbrev pub yes_or_no : Bool → List ℕ
yes_or_no true = codes "yes"
yes_or_no false = codes "no"

-- answers, each behind a space
abbrev pub answer_words : List Bool → List ℕ
answer_words [] = []
answer_words (answer ∷ answers) = codes " " ++ yes_or_no answer ++ answer_words answers

-- the line of a call: its batch, its place there, its worker, its keys, and an answer for each of them
abbrev pub call_line : ℕ → ℕ → CallView → List Bool → List ℕ
call_line batch place call answers =
    line_front batch place call.worker ++ kind_words call.what.kind ++ key_words call.what.keys
    ++ codes " ->" ++ answer_words answers ++ codes "\n"

-- the lines of a batch's calls from this place on, each served after those before it
abbrev pub served_lines : ℕ → ℕ → List ℕ → List CallView → List ℕ
served_lines batch place set [] = []
served_lines batch place set (call ∷ calls) =
    call_line batch place call (bulk_serve set call.what).1 ++ served_lines batch (place + 1) (bulk_serve set call.what).0 calls

-- the lines of a batch: all finds come first, by worker, and then inserts and removes together, by worker
abbrev pub bulk_lines : ℕ → List ℕ → List BulkView → List ℕ
bulk_lines batch set asked = served_lines batch 0 set (in_batch_order asked)

-- the set after a batch
abbrev pub after_batch : List ℕ → List BulkView → List ℕ
after_batch set asked = bulk_after set (operations (in_batch_order asked))

-- what the program prints of a text that is a script: its calls are served one after another, from the empty set on
abbrev pub bulk_text : List ℕ → List ℕ
bulk_text bytes = script_text bulk_call bulk_lines after_batch [] bytes
