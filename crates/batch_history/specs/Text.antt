-- The text of a report: a head line, a line for each entry of the book in order, and a line for each row. Operations
-- are written with the names of their objects.
use Rattle.std.specs.Prelude.{ℕ, ◌+◌, ◌≤◌, List, [], ◌∷◌, ◌++◌, length, codes}
use Rattle.std.specs.List.{AllByRecursion, flat_map}
use Rattle.std.specs.Fmt.{decimal}
use Rattle.seq_objects.specs.Objects.{number_of}
use Rattle.seq_objects.specs.Words.{op_words, reply_words}
use Rattle.batch_history.specs.Book.{flat}
use Rattle.batch_history.specs.declared.batch.Entry.{Entry}
use Rattle.batch_history.specs.declared.row.Row.{Row}
use Rattle.batch_history.specs.declared.report.Report.{Report}

-- each entry's object number is at most the number of these names
abbrev pub HaveNames : List (List ℕ) → List Entry → Type 0
HaveNames names entries = AllByRecursion (λ entry. number_of entry.op ≤ length names) entries

unfoldable pub head_line : ℕ → ℕ → ℕ → ℕ → List ℕ
head_line workers leaves calls batches =
    codes "workers " ++ decimal workers ++ codes " leaves " ++ decimal leaves ++ codes " calls " ++ decimal calls ++ codes " batches " ++ decimal batches ++ codes "\n"

unfoldable pub entry_line : List (List ℕ) → ℕ → ℕ → Entry → List ℕ
entry_line names batch place entry =
    codes "batch " ++ decimal batch ++ codes " place " ++ decimal place ++ codes " worker " ++ decimal entry.worker ++ codes " leaf " ++ decimal entry.leaf
    ++ codes " " ++ op_words names entry.op ++ codes " -> " ++ reply_words entry.reply ++ codes "\n"

-- the lines of a batch's entries, which start at this place
abbrev pub batch_lines : List (List ℕ) → ℕ → ℕ → List Entry → List ℕ
batch_lines names batch place [] = []
batch_lines names batch place (entry ∷ entries) = entry_line names batch place entry ++ batch_lines names batch (place + 1) entries

-- the lines of batches, the first of which has this number
abbrev pub book_lines : List (List ℕ) → ℕ → List (List Entry) → List ℕ
book_lines names batch [] = []
book_lines names batch (entries ∷ book) = batch_lines names batch 0 entries ++ book_lines names (batch + 1) book

unfoldable pub row_line : Row → List ℕ
row_line row =
    codes "leaf " ++ decimal row.leaf ++ codes " worker " ++ decimal row.worker ++ codes " start " ++ decimal row.start ++ codes " end " ++ decimal row.end
    ++ codes " value " ++ decimal row.value ++ codes "\n"

abbrev pub report_text : List (List ℕ) → Report → List ℕ
report_text names report =
    head_line report.workers (length report.rows) (length (flat report.history)) (length report.history)
    ++ book_lines names 0 report.history ++ flat_map row_line report.rows
