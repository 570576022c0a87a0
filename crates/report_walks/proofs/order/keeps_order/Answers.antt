use Rattle.std.proofs.Common.{[]}
use Rattle.report_walks.specs.Parts.{report_of}
use Rattle.report_walks.proofs.RowWalk.{rows_long}
use Rattle.report_walks.proofs.Timed.{timed_of}
use Rattle.report_walks.proofs.order.keeps_order.Goals as goal

pub keeps_before-requires : goal.keeps_before-requires
keeps_before-requires c = rows_long c.args.job.now c.requires.0 (report_of c.requires.0 [] c.args.rows.now) c.requires.2

pub starts_of-requires : goal.starts_of-requires
starts_of-requires c = timed_of c.args.job.now c.requires.0 c.args.rows.now c.if-not-keeps_before.ensures.job c.requires.1 c.requires.2

pub are_alone-requires-clause-timed : goal.are_alone-requires-clause-timed
are_alone-requires-clause-timed c = timed_of c.args.job.now c.requires.0 c.args.rows.now c.if-not-keeps_before.ensures.job c.requires.1 c.requires.2
