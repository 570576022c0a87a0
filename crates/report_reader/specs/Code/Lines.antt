-- Lines at the front of a text.
use Rattle.std.specs.Prelude.{◌≡◌, ℕ, ◌<◌, ◌≤◌, ◌^◌, true, List, ◌++◌, codes}
use Rattle.std.specs.Fmt.{decimal}
use Rattle.std.specs.List.{flat_map, AllByRecursion}
use Rattle.limits.specs.declared.TheConstants.{MOST_WORKERS}
use Rattle.seq_objects.specs.Objects.{value_of}
use Rattle.seq_objects.specs.Parts.{op_of}
use Rattle.seq_objects.specs.Verbs.{kind_of_verb}
use Rattle.seq_objects.specs.Words.{reply_words}
use Rattle.batch_history.specs.Text.{head_line, entry_line, row_line}
use Rattle.batch_history.specs.declared.row.Row.{Row}
use Rattle.report_reader.specs.Raw.{FitsEntry, FitsRow}
use Rattle.report_reader.specs.Code.Objects.{is_mark, names_in, IsKnown, IsFound}
use Rattle.report_reader.specs.Code.Operations.{spoken_words, IsArgument}
use Rattle.report_reader.specs.declared.head.Head.{Head}
use Rattle.report_reader.specs.declared.call.Line.{Line}
use Rattle.report_reader.specs.declared.call.Numbered.{Numbered}
use Rattle.report_reader.specs.declared.table.Table.{Table}

-- the text is this head line, with at least one worker, no more than the most, and counts of at most `most`, and then
-- the rest
pub record IsHeadThen (most : ℕ) (text : List ℕ) (head : Head) (rest : List ℕ) : Type 0 where
  pub written : head_line head.workers head.leaves head.calls head.batches ++ rest ≡ text
  pub some : 1 ≤ head.workers
  pub few : head.workers ≤ MOST_WORKERS
  pub leaves : head.leaves ≤ most
  pub calls : head.calls ≤ most
  pub batches : head.batches ≤ most

-- the line of a call on an object with this mark
abbrev pub line_text : Line → List ℕ → List ℕ
line_text line mark =
    codes "batch " ++ decimal line.batch ++ codes " place " ++ decimal line.place ++ codes " worker " ++ decimal line.worker ++ codes " leaf " ++ decimal line.leaf
    ++ codes " " ++ spoken_words line.spoken mark ++ codes " -> " ++ reply_words line.reply ++ codes "\n"

-- the numbers of a line fit their types
pub record FitsLine (line : Line) : Type 0 where
  pub batch : line.batch < 2 ^ 64
  pub place : line.place < 2 ^ 64
  pub worker : line.worker < 2 ^ 32
  pub leaf : line.leaf < 2 ^ 32
  pub argument : IsArgument line.spoken.verb line.spoken.argument
  pub reply : value_of line.reply < 2 ^ 64

-- the text is this line, with this mark, and then the rest
pub record IsLineThen (text : List ℕ) (line : Line) (mark : List ℕ) (rest : List ℕ) : Type 0 where
  pub written : line_text line mark ++ rest ≡ text
  pub marked : is_mark mark ≡ true
  pub fits : FitsLine line

-- the call of a line, on the object with this number
abbrev pub call_of : Line → ℕ → Numbered
call_of line number = record {
  batch = line.batch;
  place = line.place;
  entry = record {
    leaf = line.leaf;
    worker = line.worker;
    op = op_of line.spoken.verb number line.spoken.argument;
    reply = line.reply;
  };
}

-- the line of a call, where these are the names of the objects
abbrev pub call_line : List (List ℕ) → Numbered → List ℕ
call_line names call = entry_line names call.batch call.place call.entry

-- the numbers of a call fit their types
pub record FitsCall (call : Numbered) : Type 0 where
  pub batch : call.batch < 2 ^ 64
  pub place : call.place < 2 ^ 64
  pub entry : FitsEntry call.entry

-- the text is the line of the call, whose object the table has, and then the rest
pub record IsCallThen (table : Table) (text : List ℕ) (call : Numbered) (rest : List ℕ) : Type 0 where
  pub written : call_line (names_in table) call ++ rest ≡ text
  pub fits : FitsCall call
  pub found : IsFound table call.entry.op

-- The text is the lines of these calls, whose objects the table has, and then the rest, which does not begin with the
-- line of another such call.
pub record AreCallsThen (table : Table) (text : List ℕ) (calls : List Numbered) (rest : List ℕ) : Type 0 where
  pub written : flat_map (call_line (names_in table)) calls ++ rest ≡ text
  pub fits : AllByRecursion FitsCall calls
  pub found : AllByRecursion (λ call. IsFound table call.entry.op) calls
  pub ends : (line : Line) (mark : List ℕ) (more : List ℕ) → IsLineThen rest line mark more → IsKnown table (kind_of_verb line.spoken.verb) mark → ⊥

-- the text is the line of the row, and then the rest
pub record IsRowThen (text : List ℕ) (row : Row) (rest : List ℕ) : Type 0 where
  pub written : row_line row ++ rest ≡ text
  pub fits : FitsRow row

-- the text is the lines of these rows
pub record AreRowsOf (text : List ℕ) (rows : List Row) : Type 0 where
  pub written : flat_map row_line rows ≡ text
  pub fits : AllByRecursion FitsRow rows
