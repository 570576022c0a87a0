use Rattle.std.proofs.Common.{refl}
use Rattle.core_state.specs.Abstraction.{state_of}
use Rattle.core_state.specs.Words.{Waiting, Done, Idle}
use Rattle.ready_lists.proofs.PlaceLemmas.Written.{at_written}
use Rattle.core_state.proofs.state.State.finish_block.Goals as goal

pub returns-clause-event : goal.returns-clause-event
unfolding state_of
returns-clause-event c =
    let a = at_written c.args.self.now.nodes.items c.args.node Done Waiting c.requires.node_in in
    let b = at_written c.args.self.now.tasks.items c.args.worker c.task_after.result Idle c.requires.worker_in in
    rw (a, b, c.task_after.ensures) refl
