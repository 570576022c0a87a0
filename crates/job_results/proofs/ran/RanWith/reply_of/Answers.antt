use Rattle.serial_runs.proofs.Values.{found_reply}
use Rattle.job_results.proofs.ran.RanWith.reply_of.Goals as goal

pub returns : goal.returns
returns g c = found_reply c.args.self.now.report.history c.args.handle.leaf c.place_of.result c.place_of.ensures
