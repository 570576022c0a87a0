use Rattle.std.proofs.Common.{subst}
use Rattle.report_reader.specs.Stops.{HasLines, no_head, no_line, other_counts}
use Rattle.report_reader.proofs.Stopping.{head_line_of, no_head_line, empty_left, some_left}
use Rattle.report_reader.proofs.stop.stops_at.Goals as goal

pub returns-in-None-clause-stops : goal.returns-in-None-clause-stops
returns-in-None-clause-stops c = no_head (no_head_line c.in-None.ensures.none)

pub returns-then-is_empty-clause-stops : goal.returns-then-is_empty-clause-stops
returns-then-is_empty-clause-stops c =
    let lines = c.read_lines-count.ensures.lines in
    let none = empty_left c.read_lines-count.result.1.now c.is_empty.result c.is_empty.ensures c.if-is_empty.true in
    other_counts (head_line_of c.in-Some.ensures.some) (subst (HasLines c.in-Some.behind.now c.read_lines-count.result.0) none lines)

pub returns-else-is_empty-clause-stops : goal.returns-else-is_empty-clause-stops
returns-else-is_empty-clause-stops c =
    no_line (head_line_of c.in-Some.ensures.some) c.read_lines-count.ensures.lines (some_left c.read_lines-count.result.1.now c.is_empty.result c.is_empty.ensures c.if-is_empty.false)
