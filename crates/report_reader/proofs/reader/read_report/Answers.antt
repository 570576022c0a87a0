use Rattle.report_reader.proofs.Jobs.{reading}
use Rattle.report_reader.proofs.OneReport.{reads}
use Rattle.report_reader.proofs.reader.read_report.Goals as goal

pub returns-clause-reading : goal.returns-clause-reading
returns-clause-reading c =
    reading c.args.job.now c.in_ok-table.table c.in_ok-table.ensures c.read_by.new.table c.args.text.now c.read_by.result c.read_by.ensures.extends c.read_by.ensures.some c.read_by.ensures.none

pub returns-clause-reads : goal.returns-clause-reads
returns-clause-reads c report has = reads c.args.job.now c.in_ok-table.ensures.job_is c.args.text.now c.read_by.result report has (returns-clause-reading c)
