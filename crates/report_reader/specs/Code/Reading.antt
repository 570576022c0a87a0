-- What reading a text by a table gives.
use Rattle.std.specs.Prelude.{◌≡◌, ℕ, List}
use Rattle.std.specs.List.{AllByRecursion}
use Rattle.seq_objects.specs.Parts.{kind_of}
use Rattle.batch_history.specs.Book.{flat}
use Rattle.batch_history.specs.Text.{report_text}
use Rattle.batch_history.specs.declared.report.Report.{Report}
use Rattle.report_reader.specs.Raw.{FitsTypes}
use Rattle.report_reader.specs.Texts.{Named, HasNamedText}
use Rattle.report_reader.specs.Code.Objects.{names_in, mark_of, IsKept, IsKnown, IsFound}
use Rattle.report_reader.specs.declared.table.Table.{Table}

-- with the names of the table, this is the text of the report, whose objects the table has under their numbers
pub record IsTableText (table : Table) (text : List ℕ) (report : Report) : Type 0 where
  pub kept : IsKept table
  pub fits : FitsTypes report
  pub found : AllByRecursion (λ entry. IsFound table entry.op) (flat report.history)
  pub written : report_text (names_in table) report ≡ text

-- the text is that of a report and names, and the table has the report's objects, or grows
pub record IsKnownText (table : Table) (text : List ℕ) (named : Named) : Type 0 where
  pub has : HasNamedText text named
  pub known : AllByRecursion (λ entry. IsKnown table (kind_of entry.op) (mark_of named.names entry.op)) (flat named.report.history)
