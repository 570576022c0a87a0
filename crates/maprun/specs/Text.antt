-- What the program prints of a script: a line for each call, as one thread would serve them.
use Rattle.std.specs.Prelude.{ℕ, ◌+◌, List, [], ◌∷◌, ◌++◌, codes}
use Rattle.std.specs.Fmt.{decimal}
use Rattle.seq_objects.specs.Words.{reply_words}
use Rattle.seq_objects.specs.declared.reply.Reply.{Reply}
use Rattle.batch_script.specs.Texts.{line_front, script_text}
use Rattle.rank_nodes.specs.declared.entry.Entry.{Entry}
use Rattle.batched_map.specs.Maps.{map_serve, map_after, operations}
use Rattle.batched_map.specs.declared.call.MapOp.{MapOp}
use Rattle.batched_map.specs.declared.call.MapOp.TheVariants.{Put, Del, Get, Rank, Nth}
use Rattle.batched_map.specs.declared.call.MapCall.{MapCall}
use Rattle.batched_map.specs.Batches.{in_batch_order}
use Rattle.maprun.specs.Calls.{map_call}

-- how a call is written
abbrev pub call_words : MapOp → List ℕ
call_words (Put key val) = codes "put " ++ decimal key ++ codes " " ++ decimal val
call_words (Del key) = codes "del " ++ decimal key
call_words (Get key) = codes "get " ++ decimal key
call_words (Rank key) = codes "rank " ++ decimal key
call_words (Nth index) = codes "nth " ++ decimal index

-- the line of a call: its batch, its place there, its worker, and what it replied
abbrev pub call_line : ℕ → ℕ → MapCall → Reply → List ℕ
call_line batch place call reply =
    line_front batch place call.worker ++ call_words call.what ++ codes " -> " ++ reply_words reply ++ codes "\n"

-- the lines of a batch's calls from this place on, each served after those before it
abbrev pub served_lines : ℕ → ℕ → List Entry → List MapCall → List ℕ
served_lines batch place entries [] = []
served_lines batch place entries (call ∷ calls) =
    call_line batch place call (map_serve entries call.what).1 ++ served_lines batch (place + 1) (map_serve entries call.what).0 calls

-- the lines of a batch: its queries come first, by worker, and then its updates, by key, then worker
abbrev pub map_lines : ℕ → List Entry → List MapOp → List ℕ
map_lines batch entries asked = served_lines batch 0 entries (in_batch_order asked)

-- the map after a batch
abbrev pub after_batch : List Entry → List MapOp → List Entry
after_batch entries asked = map_after entries (operations (in_batch_order asked))

-- what the program prints of a text that is a script: its calls are served one after another, from the empty map on
abbrev pub map_text : List ℕ → List ℕ
map_text bytes = script_text map_call map_lines after_batch [] bytes
