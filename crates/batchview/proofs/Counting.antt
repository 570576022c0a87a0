-- A report has no more calls and no more rows than its text has bytes.
use Rattle.std.proofs.Common.{ℕ, ◌≤◌, List, ◌++◌, length, ap, arith, length-append}
use Rattle.std.specs.List.{flat_map}
use Rattle.batch_history.specs.Book.{flat}
use Rattle.batch_history.specs.Text.{head_line, book_lines, row_line}
use Rattle.report_reader.specs.Texts.{Named, HasNamedText}
use Rattle.report_reader.proofs.Books.{few_calls as few_in_book}
use Rattle.report_reader.proofs.Rows.{few_rows as few_in_rows}

pub few_calls : (text : List ℕ) (named : Named) → HasNamedText text named → length (flat named.report.history) ≤ length text
few_calls text named has =
    let report = named.report in
    let head = head_line report.workers (length report.rows) (length (flat report.history)) (length report.history) in
    let book = book_lines named.names 0 report.history in
    let h = few_in_book named.names 0 report.history in
    omega (arith, h, length-append head book, length-append (head ++ book) (flat_map row_line report.rows), ap length has.written)

pub few_rows : (text : List ℕ) (named : Named) → HasNamedText text named → length named.report.rows ≤ length text
few_rows text named has =
    let report = named.report in
    let head = head_line report.workers (length report.rows) (length (flat report.history)) (length report.history) in
    let h = few_in_rows report.rows in
    omega (arith, h, length-append (head ++ book_lines named.names 0 report.history) (flat_map row_line report.rows), ap length has.written)
