use denote.Param.Send.{sendable}
use Rattle.std.proofs.Crossing.{crosses}
use Rattle.locked_run.proofs.locked.run_core.Goals as goal

pub run_in_threads-requires-send-S : goal.run_in_threads-requires-send-S
run_in_threads-requires-send-S g c κs =
    let core = c.cores_are_sent.ensures in
    let job = c.type_bounds.send-J in
    search (sendable, crosses) depth 40 fits 20000
