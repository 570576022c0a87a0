use Rattle.report_reader.proofs.OneStop.{one_stop, report_follows}
use Rattle.report_reader.proofs.laws.texts_stop_at_one_line.Goals as goal

pub returns : goal.returns
returns c = record { one = one_stop; reports = report_follows }
