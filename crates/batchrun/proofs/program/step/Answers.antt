use Rattle.batchrun.specs.Words.{workers_named}
use Rattle.batchrun.proofs.OutcomeLemmas.Commands.{stepped}
use Rattle.batchrun.proofs.program.step.Goals as goal

pub returns : goal.returns
returns g c =
    let laws = c.texts_have_one_job_or_fault.ensures in
    let run = c.step_file.ensures in
    stepped laws.one_job laws.not_both laws.one_fault _ _ (g.I.Shelf.held c.args.shelf.now) c.step_file.result.status c.step_file.result.report _ _ _ _ _ _ run.headline run.cause run.reads run.writes run.model
    (workers_named c.args.command.now.schedule.now) run.driven
