use mir.Syntax.{static}
use Rattle.worker_loop.proofs.table_run.work_as_crew.Goals as goal

-- The same holds at each name of the lifetime.
pub work_in_threads-requires-sync-C : goal.work_in_threads-requires-sync-C
work_in_threads-requires-sync-C g c κs within =
    record { shared = (c.crews_go_to_threads.ensures (record { mir = static; lft = _ })).shared }
