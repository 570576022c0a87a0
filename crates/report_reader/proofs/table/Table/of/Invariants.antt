use Rattle.std.proofs.Common.{take}
use Rattle.report_reader.proofs.Noting.{Noted}
use Rattle.report_reader.proofs.table.Table.of.Given as goal

abbrev pub invariant-loop-act : goal.invariant-loop-act
invariant-loop-act l = Noted l.job l.table (take l.act-index l.job.acts)
