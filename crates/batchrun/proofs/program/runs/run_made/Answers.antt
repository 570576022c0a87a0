use Rattle.batchrun.proofs.OutcomeLemmas.Made.{prints_made}
use Rattle.batchrun.proofs.program.runs.run_made.Goals as goal

pub returns-clause-headline : goal.returns-clause-headline
returns-clause-headline g c =
    prints_made c.args.command.now.size c.args.command.now.seed c.args.command.now.workers c.in-Ok.job c.run_table-run.result c.in-Ok.ensures.job c.run_table-run.ensures.lawful
    c.write_summary.result.status c.write_summary.result.report _ _ c.write_summary.ensures.headline
