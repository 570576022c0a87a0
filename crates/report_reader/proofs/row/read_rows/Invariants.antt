use Rattle.std.proofs.Common.{◌≡◌, ◌++◌, length}
use Rattle.std.specs.List.{flat_map, AllByRecursion}
use Rattle.batch_history.specs.Text.{row_line}
use Rattle.report_reader.specs.Raw.{FitsRow}
use Rattle.report_reader.proofs.row.read_rows.Given as goal

-- what was read, and what is left
abbrev pub invariant-loop-rest : goal.invariant-loop-rest
invariant-loop-rest l = record {
  read : flat_map row_line l.rows.items ++ l.rest ≡ l.text;
  fits : AllByRecursion FitsRow l.rows.items;
}

abbrev pub decreases-loop-rest : goal.decreases-loop-rest
decreases-loop-rest l = length l.rest
