-- The commands of the code, as those of the specification.
use Rattle.batchrun.specs.Words.{Command, step, run, gen, workers_named}
use Rattle.batchrun.specs.declared.command.Command.{Command as ReadCommand}
use Rattle.batchrun.specs.declared.command.Command.TheVariants.{Step, Run, Gen}
use Rattle.batchrun.specs.declared.command.GenCommand.{GenCommand}
use Rattle.batchrun.specs.declared.command.RunCommand.{RunCommand}
use Rattle.batchrun.specs.declared.command.StepCommand.{StepCommand}

abbrev pub step_in : StepCommand → Command
step_in command = step command.file.now command.workers (workers_named command.schedule.now)

abbrev pub run_in : RunCommand → Command
run_in command = run command.file.now command.workers

abbrev pub gen_in : GenCommand → Command
gen_in command = gen command.size command.seed command.workers

abbrev pub command_in : ReadCommand → Command
command_in (Step command) = step_in command
command_in (Run command) = run_in command
command_in (Gen command) = gen_in command
