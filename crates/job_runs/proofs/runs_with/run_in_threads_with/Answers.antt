use Rattle.std.proofs.Common.{rules}
use Rattle.batch_history.specs.Lawful.{LawfulWith}
use Rattle.job_runs.proofs.runs_with.run_in_threads_with.Goals as goal

pub returns-clause-serial : goal.returns-clause-serial
returns-clause-serial g c =
    let meaning = g.W.LeafWork.meaning c.args.work.now in
    let lawful : LawfulWith meaning c.args.job c.args.workers c.of.result.report = search rules in
    c.lawful_reports_with_work_are_serial.ensures meaning c.args.job c.args.workers c.of.result.report lawful
