use Rattle.report_shares.proofs.Edges.{take_each_tick}
use Rattle.report_shares.proofs.laws.columns_take_each_tick.Goals as goal

pub returns : goal.returns
returns c = take_each_tick
