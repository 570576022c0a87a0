use mir.Syntax.{static}
use Rattle.table_tests.proofs.runs.work_as_crew.Goals as goal

-- The same holds at each name of the lifetime.
pub work_both-requires-sync-C : goal.work_both-requires-sync-C
work_both-requires-sync-C g c κs within = record { shared = (c.crews_go_to_threads.ensures (record { mir = static; lft = _ })).shared }
