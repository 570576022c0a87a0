use Rattle.batchrun.specs.Words.{command_of, spelled}
use Rattle.batchrun.proofs.OutcomeLemmas.InMemory.{in_memory, all_room, step_writes, step_driven, step_model}
use Rattle.batchrun.proofs.in_memory.step_in_memory.Goals as goal

pub returns-clause-answer : goal.returns-clause-answer
returns-clause-answer c =
    in_memory (command_of (spelled c.args.words.now)) c.run_step.result.status c.run_step.result.report c.args.shelf.now.files c.args.shelf.now.fails c.args.out.now c.requires.command
    c.requires.no_read_fails c.requires.no_write_fails (λ command is. (c.run_step.ensures.owes command is).assured)

pub returns-clause-writes : goal.returns-clause-writes
returns-clause-writes c =
    rw (all_room c.args.out.now c.requires.no_write_fails) at
    (step_writes (command_of (spelled c.args.words.now)) _ c.run_step.result.status c.run_step.result.report _ c.requires.command (λ command is. (c.run_step.ensures.owes command is).writes))

pub returns-clause-driven : goal.returns-clause-driven
returns-clause-driven c =
    step_driven (command_of (spelled c.args.words.now)) c.run_step.result.report _ c.requires.command (λ command is. (c.run_step.ensures.owes command is).driven)

pub returns-clause-model : goal.returns-clause-model
returns-clause-model c =
    step_model (command_of (spelled c.args.words.now)) c.run_step.result.report _ c.requires.command (λ command is. (c.run_step.ensures.owes command is).model)

pub returns-clause-cause : goal.returns-clause-cause
returns-clause-cause c command is = (c.run_step.ensures.owes command is).cause

pub returns-clause-completes : goal.returns-clause-completes
returns-clause-completes c command is = (c.run_step.ensures.owes command is).completes
