-- What a text tells of the reports that have it.
use Rattle.std.proofs.Common.{◌≡◌, ◌≢◌, ℕ, ◌+◌, ◌<◌, ◌≤◌, ◌^◌, inr, true, List, [], ◌∷◌, ◌++◌, length, map, refl, sym, ap, subst, ◌∙◌, append_assoc, length-append, arith}
use Rattle.std.specs.List.{flat_map, AllByRecursion}
use Rattle.std.specs.Fmt.{decimal}
use Rattle.std.proofs.lemmas.Fmt.{decimal_injective}
use Rattle.std.proofs.lemmas.List.{length-map, map-append}
use Rattle.seq_objects.specs.Parts.{kind_of}
use Rattle.seq_objects.specs.Objects.{number_of}
use Rattle.seq_objects.proofs.Elements.{each_so}
use Rattle.batch_history.specs.Book.{flat}
use Rattle.batch_history.specs.Text.{head_line, book_lines, row_line}
use Rattle.batch_history.specs.declared.batch.Entry.{Entry}
use Rattle.batch_history.specs.declared.row.Row.{Row}
use Rattle.batch_history.specs.declared.report.Report.{Report}
use Rattle.report_reader.specs.Texts.{Named}
use Rattle.report_reader.specs.Code.Objects.{is_mark, names_in, mark_of, IsKept, IsKnown, IsFound}
use Rattle.report_reader.specs.Code.Lines.{IsHeadThen, AreCallsThen, AreRowsOf, call_line}
use Rattle.report_reader.specs.Code.Groups.{AreCallsOf, numbered_batch, numbered_book}
use Rattle.report_reader.specs.Code.Reading.{IsTableText, IsKnownText}
use Rattle.seq_objects.specs.declared.kind.Kind.{Kind}
use Rattle.report_reader.specs.declared.head.Head.{Head}
use Rattle.report_reader.specs.declared.call.Line.{Line}
use Rattle.report_reader.specs.declared.call.Numbered.{Numbered}
use Rattle.report_reader.specs.declared.table.Table.{Table}
use Rattle.report_reader.proofs.Heads.{heads_apart}
use Rattle.report_reader.proofs.Rows.{one_list, few_rows}
use Rattle.report_reader.proofs.Calls.{number_marked}
use Rattle.report_reader.proofs.Books.{told, AreLinesThen, calls_way, rows_no_line, book_numbered, call_count, few_batches, few_calls, book_fits, book_entries, book_all, book_every}
use Rattle.report_reader.proofs.Groups.{one_book}

-- what stands behind the head line of a report
abbrev lines_of : List (List ℕ) → Report → List ℕ
lines_of names report = book_lines names 0 report.history ++ flat_map row_line report.rows

abbrev head_of : Report → List ℕ
head_of report = head_line report.workers (length report.rows) (length (flat report.history)) (length report.history)

-- a batch of calls that are told alike, and those behind it
record Rebatched (names names' : List (List ℕ)) (b p : ℕ) (es : List Entry) (behind : List (Line × List ℕ)) (calls : List Numbered) : Type 0 where
  entries : List Entry
  rest : List Numbered
  parts : numbered_batch b p entries ++ rest ≡ calls
  left : behind ≡ map (told names') rest
  long : length entries ≡ length es

rebatch : (names names' : List (List ℕ)) (b p : ℕ) (es : List Entry) (behind : List (Line × List ℕ)) (calls : List Numbered) → map (told names) (numbered_batch b p es) ++ behind ≡ map (told names') calls → Rebatched names names' b p es behind calls
rebatch names names' b p [] behind calls is = record { entries = []; rest = calls; parts = refl; left = is; long = refl }
rebatch names names' b p (e ∷ es) behind [] is = cc
rebatch names names' b p (e ∷ es) behind (call ∷ calls) is =
    let first : told names (record { batch = b; place = p; entry = e }) ≡ told names' call = cc in
    let tail : map (told names) (numbered_batch b (p + 1) es) ++ behind ≡ map (told names') calls = cc in
    let more = rebatch names names' b (p + 1) es behind calls tail in
    let batch : b ≡ call.batch = ap (λ (t : Line × List ℕ). t.0.batch) first in
    let place : p ≡ call.place = ap (λ (t : Line × List ℕ). t.0.place) first in
    record {
      entries = call.entry ∷ more.entries;
      rest = more.rest;
      parts = ap (λ (c : Numbered). c ∷ (numbered_batch b (p + 1) more.entries ++ more.rest)) (same_place call b p batch place) ∙ ap (λ (cs : List Numbered). call ∷ cs) more.parts;
      left = more.left;
      long = omega (arith, more.long);
    }
  where
    same_place : (call : Numbered) (b p : ℕ) → b ≡ call.batch → p ≡ call.place → ◌≡◌ {A = Numbered} (record { batch = b; place = p; entry = call.entry }) call
    same_place call b p eb ep = rw (eb, ep)

some_entries : (es es' : List Entry) → length es' ≡ length es → es ≢ [] → es' ≢ []
some_entries [] es' long some = absurd (some refl)
some_entries (e ∷ es) [] long some = absurd (omega (arith, long))
some_entries (e ∷ es) (e' ∷ es') long some = λ none. cc (none)

-- calls that are told as those of a book are those of a book, of as many batches
record Rebooked (b : ℕ) (book : List (List Entry)) (calls : List Numbered) : Type 0 where
  own : List (List Entry)
  are : AreCallsOf calls b own
  long : length own ≡ length book

rebook : (names names' : List (List ℕ)) (b : ℕ) (book : List (List Entry)) (calls : List Numbered) → AllByRecursion (λ (entries : List Entry). entries ≢ []) book → map (told names) (numbered_book b book) ≡ map (told names') calls → Rebooked b book calls
rebook names names' b [] [] some is = record { own = []; are = record { numbered = refl; some = tt }; long = refl }
rebook names names' b [] (call ∷ calls) some is = cc
rebook names names' b (es ∷ book) calls some is =
    let first = rebatch names names' b 0 es (map (told names) (numbered_book (b + 1) book)) calls (sym (map-append (told names) (numbered_batch b 0 es) (numbered_book (b + 1) book)) ∙ is) in
    let more = rebook names names' (b + 1) book first.rest some.1 first.left in
    record {
      own = first.entries ∷ more.own;
      are = record { numbered = ap (λ (cs : List Numbered). numbered_batch b 0 first.entries ++ cs) more.are.numbered ∙ first.parts; some = (some_entries es first.entries first.long some.0, more.are.some) };
      long = omega (arith, more.long);
    }

-- the calls that were read, as lines
own_lines : (table : Table) (text : List ℕ) (calls : List Numbered) (rest : List ℕ) → IsKept table → AreCallsThen table text calls rest → AreLinesThen (IsKnown table) (names_in table) text calls rest
own_lines table text calls rest kept are = record {
  written = are.written;
  fits = are.fits;
  marked = each_so (λ (call : Numbered). IsFound table call.entry.op) (λ (call : Numbered). is_mark (mark_of (names_in table) call.entry.op) ≡ true)
      (λ call has. number_marked (names_in table) (number_of call.entry.op) kept.spelled has.0) calls are.found;
  known = each_so (λ (call : Numbered). IsFound table call.entry.op) (λ (call : Numbered). IsKnown table (kind_of call.entry.op) (mark_of (names_in table) call.entry.op))
      (λ call has. inr (rw has.1 refl)) calls are.found;
  ends = are.ends;
}

module _ {table : Table} {text : List ℕ} {named : Named} (is : IsKnownText table text named) where
  whole : head_of named.report ++ lines_of named.names named.report ≡ text
  whole = sym (append_assoc (head_of named.report) (book_lines named.names 0 named.report.history) (flat_map row_line named.report.rows)) ∙ is.has.written

  -- the counts of a report are at most the length of its text
  lengths : length (head_of named.report) + length (book_lines named.names 0 named.report.history) + length (flat_map row_line named.report.rows) ≡ length text
  lengths = omega (arith, length-append (head_of named.report) (lines_of named.names named.report), length-append (book_lines named.names 0 named.report.history) (flat_map row_line named.report.rows), ap length whole)

  many_calls : length (flat named.report.history) ≤ length text
  many_calls = omega (arith, lengths, few_calls named.names 0 named.report.history)

  many_batches : length named.report.history ≤ length text
  many_batches = omega (arith, many_calls, few_batches named.report.history is.has.fits.batches)

  many_rows : length named.report.rows ≤ length text
  many_rows = omega (arith, lengths, few_rows named.report.rows)

  -- the text of a report is a head line, the lines of its calls, and the lines of its rows
  pub head_is : {most : ℕ} → most ≡ length text
      → IsHeadThen most text (record { workers = named.report.workers; leaves = length named.report.rows; calls = length (flat named.report.history); batches = length named.report.history }) (lines_of named.names named.report)
  head_is {most = most} at = record {
    written = whole;
    some = is.has.fits.some;
    few = is.has.fits.few;
    leaves = omega (arith, many_rows, at);
    calls = omega (arith, many_calls, at);
    batches = omega (arith, many_batches, at);
  }

  lines_are : length text < 2 ^ 64 → AreLinesThen (IsKnown table) named.names (lines_of named.names named.report) (numbered_book 0 named.report.history) (flat_map row_line named.report.rows)
  lines_are small = record {
    written = ap (λ (t : List ℕ). t ++ flat_map row_line named.report.rows) (sym (book_numbered named.names 0 named.report.history));
    fits = book_fits 0 named.report.history (omega (arith, many_batches, small)) (omega (arith, many_calls, small)) is.has.fits.entries;
    marked = book_all (λ (entry : Entry). is_mark (mark_of named.names entry.op) ≡ true) 0 named.report.history
        (each_so (λ (entry : Entry). number_of entry.op ≤ length named.names) (λ (entry : Entry). is_mark (mark_of named.names entry.op) ≡ true)
        (λ entry low. number_marked named.names (number_of entry.op) is.has.spelled low) (flat named.report.history) is.has.numbers);
    known = book_all (λ (entry : Entry). IsKnown table (kind_of entry.op) (mark_of named.names entry.op)) 0 named.report.history is.known;
    ends = λ line mark more read known. rows_no_line named.report.rows line mark more read.written;
  }

  rows_are : AreRowsOf (flat_map row_line named.report.rows) named.report.rows
  rows_are = record { written = refl; fits = is.has.fits.rows }

  -- behind a head line that was read stand the lines of the report
  module _ (kept : IsKept table) {most : ℕ} (small : most < 2 ^ 64) (at : most ≡ length text) {head : Head} {rest : List ℕ} (read : IsHeadThen most text head rest) where
    heads : (named.report.workers ≡ head.workers) × (lines_of named.names named.report ≡ rest) × (decimal (length named.report.rows) ≡ decimal head.leaves)
        × (decimal (length (flat named.report.history)) ≡ decimal head.calls) × (decimal (length named.report.history) ≡ decimal head.batches)
    heads = heads_apart named.report.workers head.workers (length named.report.rows) head.leaves (length (flat named.report.history)) head.calls (length named.report.history) head.batches (lines_of named.names named.report) rest
        is.has.fits.few read.few (whole ∙ sym read.written)

    -- and behind the calls that were read, those of its rows
    module _ {calls : List Numbered} {more : List ℕ} (read_calls : AreCallsThen table rest calls more) where
      calls_same : (map (told named.names) (numbered_book 0 named.report.history) ≡ map (told (names_in table)) calls) × (flat_map row_line named.report.rows ≡ more)
      calls_same = calls_way (IsKnown table) named.names (names_in table) (lines_of named.names named.report) (numbered_book 0 named.report.history) calls (flat_map row_line named.report.rows) more
          (lines_are (omega (arith, small, at))) (own_lines table (lines_of named.names named.report) calls more kept (rw heads.1 read_calls))

      pub no_report_rows : ((rows : List Row) → AreRowsOf more rows → ⊥) → ⊥
      no_report_rows none = none named.report.rows (rw calls_same.1 at rows_are)

      again : Rebooked 0 named.report.history calls
      again = rebook named.names (names_in table) 0 named.report.history calls is.has.fits.batches calls_same.0

      pub no_report_batches : ((book : List (List Entry)) → AreCallsOf calls 0 book → ⊥) → ⊥
      no_report_batches none = none again.own again.are

      count : length calls ≡ length (flat named.report.history)
      count = sym (length-map calls (told (names_in table))) ∙ sym (ap length calls_same.0) ∙ length-map (numbered_book 0 named.report.history) (told named.names) ∙ call_count 0 named.report.history

      -- and the counts of what was read are those of the head
      pub no_report_counts : {rows : List Row} {book : List (List Entry)} → AreRowsOf more rows → AreCallsOf calls 0 book
          → ((head.leaves ≡ length rows) × (head.calls ≡ length calls) × (head.batches ≡ length book) → ⊥) → ⊥
      no_report_counts {rows = rows} {book = book} are_rows are_calls none =
          let same_rows : named.report.rows ≡ rows = one_list more named.report.rows rows (rw calls_same.1 at rows_are) are_rows in
          let same_book : again.own ≡ book = one_book 0 calls again.own book again.are are_calls in
          let leaves : length named.report.rows ≡ head.leaves = decimal_injective (length named.report.rows) head.leaves (omega (arith, many_rows, small, at)) (omega (arith, read.leaves, small)) heads.2 in
          let served : length (flat named.report.history) ≡ head.calls = decimal_injective (length (flat named.report.history)) head.calls (omega (arith, many_calls, small, at)) (omega (arith, read.calls, small)) heads.3 in
          let batches : length named.report.history ≡ head.batches = decimal_injective (length named.report.history) head.batches (omega (arith, many_batches, small, at)) (omega (arith, read.batches, small)) heads.4 in
          none (sym leaves ∙ ap length same_rows, sym served ∙ sym count, sym batches ∙ sym again.long ∙ ap length same_book)

-- where a head line, calls, rows and batches were read and the counts agree, the text is that of this report
pub report_read : {table : Table} {most : ℕ} {text : List ℕ} {head : Head} {rest more : List ℕ} {calls : List Numbered} {rows : List Row} {book : List (List Entry)}
    → IsKept table → IsHeadThen most text head rest → AreCallsThen table rest calls more → AreRowsOf more rows → AreCallsOf calls 0 book
    → (head.leaves ≡ length rows) × (head.calls ≡ length calls) × (head.batches ≡ length book)
    → IsTableText table text (record { workers = head.workers; history = book; rows = rows })
report_read {table = table} {text = text} {head = head} {rest = rest} {more = more} {calls = calls} {rows = rows} {book = book} kept is are_calls are_rows are_batches counts =
    let names = names_in table in
    let served : length (flat book) ≡ length calls = sym (call_count 0 book) ∙ ap length are_batches.numbered in
    let start : head_line head.workers (length rows) (length (flat book)) (length book) ≡ head_line head.workers head.leaves head.calls head.batches = rw (counts.0, counts.1, counts.2, served) refl in
    let lines : book_lines names 0 book ≡ flat_map (call_line names) calls = book_numbered names 0 book ∙ ap (λ (cs : List Numbered). flat_map (call_line names) cs) are_batches.numbered in
    let behind : book_lines names 0 book ++ flat_map row_line rows ≡ rest = ap (λ (t : List ℕ). t ++ flat_map row_line rows) lines ∙ ap (λ (t : List ℕ). flat_map (call_line names) calls ++ t) are_rows.written ∙ are_calls.written in
    record {
      kept = kept;
      fits = record {
        some = is.some;
        few = is.few;
        batches = are_batches.some;
        entries = book_entries 0 book (rw are_batches.numbered are_calls.fits);
        rows = are_rows.fits;
      };
      found = book_every (λ (entry : Entry). IsFound table entry.op) 0 book (subst (AllByRecursion (λ (call : Numbered). IsFound table call.entry.op)) (sym are_batches.numbered) are_calls.found);
      written = append_assoc (head_line head.workers (length rows) (length (flat book)) (length book)) (book_lines names 0 book) (flat_map row_line rows)
          ∙ ap (λ (t : List ℕ). t ++ (book_lines names 0 book ++ flat_map row_line rows)) start ∙ ap (λ (t : List ℕ). head_line head.workers head.leaves head.calls head.batches ++ t) behind ∙ is.written;
    }

-- what an older table knows, a longer one does
pub known_text : (old new : Table) (text : List ℕ) (named : Named) → ((kind : Kind) (mark : List ℕ) → IsKnown old kind mark → IsKnown new kind mark) → IsKnownText old text named → IsKnownText new text named
known_text old new text named stays is = record {
  has = is.has;
  known = each_so (λ (entry : Entry). IsKnown old (kind_of entry.op) (mark_of named.names entry.op)) (λ (entry : Entry). IsKnown new (kind_of entry.op) (mark_of named.names entry.op))
      (λ entry known. stays (kind_of entry.op) (mark_of named.names entry.op) known) (flat named.report.history) is.known;
}
