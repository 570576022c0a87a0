use Rattle.seq_objects.specs.Spin.{spin_of}
use Rattle.serial_runs.proofs.laws.lawful_reports_are_serial.Goals as goal

pub returns : goal.returns
returns c job workers report lawful = c.lawful_reports_with_work_are_serial.ensures spin_of job workers report lawful
