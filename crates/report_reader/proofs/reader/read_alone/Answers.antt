use Rattle.std.proofs.Common.{refl}
use Rattle.report_reader.proofs.Jobs.{alone_report, alone_known, alone_err}
use Rattle.report_reader.proofs.reader.read_alone.Goals as goal

pub returns-in-Ok : goal.returns-in-Ok
returns-in-Ok c = rw c.into_names.ensures (alone_report c.read_by.new.table c.args.text.now c.in-Ok.raw c.in-Ok.ensures.some)

pub returns-in-Err : goal.returns-in-Err
returns-in-Err c = alone_err c.args.text.now c.in-Err.error (λ is named has. c.in-Err.ensures.none (rw is refl) named (alone_known c.new-table.result c.args.text.now named c.new-table.ensures.grows has))
