use Rattle.batchrun.proofs.OutcomeLemmas.Ends.{run_can_be_written, ran, ran_past, models}
use Rattle.batchrun.proofs.program.runs.run_file.Goals as goal

pub write_report-requires : goal.write_report-requires
write_report-requires g c =
    run_can_be_written c.lawful_reports_name_their_objects.ensures c.in-Ok.job c.args.command.now.workers c.run_table-run.result c.in-Ok.ensures.job c.run_table-run.ensures.lawful

pub returns-in-Ok-clause-headline : goal.returns-in-Ok-clause-headline
returns-in-Ok-clause-headline g c =
    ran (g.I.Shelf.held c.args.shelf.now c.args.command.now.file.now) c.args.command.now.workers c.in-Ok.job c.run_table-run.result c.in-Ok.ensures.ok c.run_table-run.ensures.lawful
    c.write_report.result.status c.write_report.result.report _ _ c.write_report.ensures.headline

pub returns-in-Ok-clause-writes : goal.returns-in-Ok-clause-writes
returns-in-Ok-clause-writes g c =
    ran_past (g.I.Shelf.held c.args.shelf.now c.args.command.now.file.now) c.args.command.now.workers c.in-Ok.job c.run_table-run.result c.in-Ok.ensures.ok c.run_table-run.ensures.lawful
    c.write_report.result.status c.write_report.result.report _ c.write_report.ensures.writes

pub returns-in-Ok-clause-model : goal.returns-in-Ok-clause-model
returns-in-Ok-clause-model g c =
    models (g.I.Shelf.held c.args.shelf.now c.args.command.now.file.now) c.args.command.now.workers c.in-Ok.job c.run_table-run.result c.write_report.result.status c.write_report.result.report _ _ c.in-Ok.ensures.ok
    c.run_table-run.ensures.lawful c.run_table-run.ensures.run c.write_report.ensures.headline
