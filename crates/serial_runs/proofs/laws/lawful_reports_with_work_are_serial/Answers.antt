use Rattle.serial_runs.proofs.SerialOrder.{serial}
use Rattle.serial_runs.proofs.laws.lawful_reports_with_work_are_serial.Goals as goal

pub returns : goal.returns
returns c work job workers report lawful = serial work job workers report lawful
