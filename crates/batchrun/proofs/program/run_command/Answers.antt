use Rattle.batchrun.proofs.OutcomeLemmas.Commands.{run_of_file, run_of_made}
use Rattle.batchrun.proofs.program.run_command.Goals as goal

pub returns-in-Run : goal.returns-in-Run
returns-in-Run g c =
    let laws = c.texts_have_one_job_or_fault.ensures in
    let run = c.run_file.ensures in
    rw c.in-Run.is
    (run_of_file laws.one_job laws.not_both laws.one_fault _ _ (g.I.Shelf.held c.args.shelf.now) c.run_file.result.status c.run_file.result.report _ _ _ _ _ _ run.headline run.cause run.reads run.writes run.model)

pub returns-in-Gen : goal.returns-in-Gen
returns-in-Gen g c =
    let run = c.run_made.ensures in
    rw c.in-Gen.is
    (run_of_made _ _ _ (g.I.Shelf.held c.args.shelf.now) c.run_made.result.status c.run_made.result.report _ _ _ _ _ _ run.headline run.summary run.cause run.writes run.assured run.model)
